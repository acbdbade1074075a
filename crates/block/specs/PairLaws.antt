-- Laws of the pairs that a part's series carry: the values of a name among them.
use Rattle.std.proofs.Common.{◌≡◌, ℕ, zero, suc, ◌+◌, Bool, true, false, cond, ◌&&◌, ◌||◌, inl, inr}
use Rattle.std.proofs.Common.{List, [], ◌∷◌, map, get_or, refl, sym, ◌∙◌, ap, subst, arith}
use Rattle.std.specs.Prelude.{filter}
use Rattle.std.specs.List.{Contains, AllByRecursion, list_any}
use Rattle.std.specs.Str.{bytes_eq}
use Rattle.std.specs.Ordering.{ordering_then}
use Rattle.std.specs.declared.cmp.Ordering.TheVariants.{Less, Equal}
use Rattle.labels.specs.Labels.{text_cmp, pair_cmp, value_of}
use Rattle.labels.specs.Parts.{Part, references_where, carries}
use Rattle.labels.proofs.Lists.{here, there, Contains-cases, none_in_nil}
use Rattle.labels.proofs.Texts.{text_self, pair_total, bytes_exact, bytes_self}
use Rattle.labels.proofs.PartRows.{some_row, row_kept, carried_itself}
use Rattle.labels.proofs.Times.{true_not_false}
use Rattle.postings.specs.Values.{AreAscending, AreValuesOf}
use Rattle.index_reader.specs.Indexes.{values_of}
use Rattle.block.specs.CarriedPairs.{Pair, ArePairsInOrder, AreCarriedPairs}

-- the order of the values

-- of two pairs of one name the smaller has the smaller value
value_less : (name : List ℕ) (a b : Pair) → bytes_eq a.0 name ≡ true → bytes_eq b.0 name ≡ true
    → pair_cmp a b ≡ Less → text_cmp a.1 b.1 ≡ Less
value_less name a b p q l =
    let same : a.0 ≡ b.0 = bytes_exact a.0 name p ∙ sym (bytes_exact b.0 name q) in
    let tie : text_cmp a.0 b.0 ≡ Equal =
    subst (λ (m : List ℕ). text_cmp a.0 m ≡ Equal) same (text_self a.0) in
    sym (ap (λ o. ordering_then o (text_cmp a.1 b.1)) tie) ∙ l

tail_in_order : (x : Pair) (xs : List Pair) → ArePairsInOrder (x ∷ xs) → ArePairsInOrder xs
tail_in_order x xs h k l =
    let n : suc k + 1 ≡ suc (k + 1) = omega arith in
    subst (λ (m : ℕ). pair_cmp (get_or xs k ([], [])) (get_or (x ∷ xs) m ([], [])) ≡ Less) n
    (h (suc k) (omega (arith, l)))

later_each : (x : Pair) (xs : List Pair)
    → ((y : Pair) → AllByRecursion (λ (z : Pair). pair_cmp y z ≡ Less) xs → pair_cmp x y ≡ Less
    → AllByRecursion (λ (z : Pair). pair_cmp x z ≡ Less) xs)
later_each x [] y a e = tt
later_each x (z ∷ zs) y a e = (pair_total.trans x y z e a.0, later_each x zs y a.1 e)

less_each : (x : Pair) (xs : List Pair) → ArePairsInOrder (x ∷ xs)
    → AllByRecursion (λ (y : Pair). pair_cmp x y ≡ Less) xs
less_each x [] h = tt
less_each x (y ∷ ys) h =
    let e : pair_cmp x y ≡ Less = h 0 (omega arith) in
    (e, later_each x ys y (less_each y ys (tail_in_order x (y ∷ ys) h)) e)

later_values : (name : List ℕ) (x : Pair) (xs : List Pair) → bytes_eq x.0 name ≡ true
    → AllByRecursion (λ (y : Pair). pair_cmp x y ≡ Less) xs
    → AllByRecursion (λ (v : List ℕ). text_cmp x.1 v ≡ Less) (values_of name xs)
later_values name x [] e a = tt
later_values name x (y ∷ ys) e a = go (bytes_eq y.0 name) refl (later_values name x ys e a.1)
  where
    go : (b : Bool) → bytes_eq y.0 name ≡ b
        → AllByRecursion (λ (v : List ℕ). text_cmp x.1 v ≡ Less) (values_of name ys)
        → AllByRecursion (λ (v : List ℕ). text_cmp x.1 v ≡ Less)
        (map (λ (p : Pair). p.1) (cond b (y ∷ filter (λ (p : Pair). bytes_eq p.0 name) ys)
        (filter (λ (p : Pair). bytes_eq p.0 name) ys)))
    go true f ih = (value_less name x y e f a.0, ih)
    go false f ih = ih

first_ascends : (v : List ℕ) (vs : List (List ℕ))
    → AllByRecursion (λ (w : List ℕ). text_cmp v w ≡ Less) vs → AreAscending vs
    → AreAscending (v ∷ vs)
first_ascends v [] a h k l = absurd (omega (arith, l))
first_ascends v (w ∷ ws) a h zero l = a.0
first_ascends v (w ∷ ws) a h (suc k) l =
    let n : suc (k + 1) ≡ suc k + 1 = omega arith in
    subst (λ (m : ℕ). text_cmp (get_or (w ∷ ws) k []) (get_or (v ∷ w ∷ ws) m []) ≡ Less) n
    (h k (omega (arith, l)))

none_ascend : AreAscending []
none_ascend k l = absurd (omega (arith, l))

values_ascend : (name : List ℕ) (xs : List Pair) → ArePairsInOrder xs
    → AreAscending (values_of name xs)
values_ascend name [] h = none_ascend
values_ascend name (x ∷ xs) h =
    go (bytes_eq x.0 name) refl (values_ascend name xs (tail_in_order x xs h))
  where
    go : (b : Bool) → bytes_eq x.0 name ≡ b → AreAscending (values_of name xs)
        → AreAscending (map (λ (p : Pair). p.1) (cond b (x ∷ filter
        (λ (p : Pair). bytes_eq p.0 name) xs) (filter (λ (p : Pair). bytes_eq p.0 name) xs)))
    go true f ih =
        first_ascends x.1 (values_of name xs) (later_values name x xs f (less_each x xs h)) ih
    go false f ih = ih

-- a value of a name, and its pair

paired : (name value : List ℕ) (pairs : List Pair) → Contains (values_of name pairs) value
    → Contains pairs (name, value)
paired name value [] c = absurd (none_in_nil value c)
paired name value (x ∷ xs) c = go (bytes_eq x.0 name) refl (paired name value xs) c
  where
    go : (b : Bool) → bytes_eq x.0 name ≡ b
        → (Contains (values_of name xs) value → Contains xs (name, value))
        → Contains (map (λ (p : Pair). p.1) (cond b (x ∷ filter (λ (p : Pair). bytes_eq p.0 name)
        xs) (filter (λ (p : Pair). bytes_eq p.0 name) xs))) value → Contains (x ∷ xs) (name, value)
    go true f ih d = elim (Contains-cases x.1 (values_of name xs) value d) [
      | inl e ↦
          let same : x ≡ (name, value) = λ i. (bytes_exact x.0 name f i, e i) in
          subst (λ (p : Pair). Contains (x ∷ xs) p) same (here x xs)
      | inr m ↦ there x (name, value) xs (ih m)
    ]
    go false f ih d = there x (name, value) xs (ih d)

abbrev is_pair : List ℕ → List ℕ → Pair → Bool
is_pair name value p = bytes_eq p.0 name && bytes_eq p.1 value

listed : (name value : List ℕ) (pairs : List Pair) → list_any (is_pair name value) pairs ≡ true
    → Contains (values_of name pairs) value
listed name value [] e = absurd (true_not_false (sym e))
listed name value (x ∷ xs) e =
    go (bytes_eq x.0 name) (bytes_eq x.1 value) refl e (listed name value xs)
  where
    go : (b v : Bool) → bytes_eq x.1 value ≡ v
        → ((b && v) || list_any (is_pair name value) xs) ≡ true
        → (list_any (is_pair name value) xs ≡ true → Contains (values_of name xs) value)
        → Contains (map (λ (p : Pair). p.1) (cond b (x ∷ filter (λ (p : Pair). bytes_eq p.0 name)
        xs) (filter (λ (p : Pair). bytes_eq p.0 name) xs))) value
    go true true f h ih =
        subst (λ (w : List ℕ). Contains (x.1 ∷ values_of name xs) w) (bytes_exact x.1 value f)
        (here x.1 (values_of name xs))
    go true false f h ih = there x.1 value (values_of name xs) (ih h)
    go false v f h ih = ih h

unlisted : (name value : List ℕ) (pairs : List Pair) → list_any (is_pair name value) pairs ≡ false
    → Contains pairs (name, value) → ⊥
unlisted name value [] e c = none_in_nil (name, value) c
unlisted name value (x ∷ xs) e c = elim (Contains-cases x xs (name, value) c) [
  | inl same ↦
      let n : bytes_eq x.0 name ≡ true =
      subst (λ (m : List ℕ). bytes_eq x.0 m ≡ true)
      (ap (λ (p : Pair). p.0) same) (bytes_self x.0) in
      let v : bytes_eq x.1 value ≡ true =
      subst (λ (m : List ℕ). bytes_eq x.1 m ≡ true)
      (ap (λ (p : Pair). p.1) same) (bytes_self x.1) in
      true_not_false (sym (ap (λ b. (b && bytes_eq x.1 value) || list_any (is_pair name value) xs) n
      ∙ ap (λ b. b || list_any (is_pair name value) xs) v)
      ∙ e)
  | inr m ↦ unlisted name value xs (rest (is_pair name value x) e) m
]
  where
    rest : (b : Bool) → (b || list_any (is_pair name value) xs) ≡ false
        → list_any (is_pair name value) xs ≡ false
    rest true h = absurd (true_not_false h)
    rest false h = h

-- the values of a name among the pairs are those that it has in the part
pub are_values_of : (part : Part) (pairs : List Pair) (name : List ℕ) → AreCarriedPairs part pairs
    → AreValuesOf part name (values_of name pairs)
are_values_of part pairs name h = record {
  ascending = values_ascend name pairs h.in_order;
  carried =
      λ value c.
      some_row (carries name value) part (h.carried name value (paired name value pairs c));
  present =
      λ row c some.
      there_is (value_of row.1.0 name) (row_kept (carries name (value_of row.1.0 name)) part row c
      (carried_itself (value_of row.1.0 name) some));
}
  where
    there_is : (value : List ℕ) → (references_where (carries name value) part ≡ [] → ⊥)
        → Contains (values_of name pairs) value
    there_is value some = go (list_any (is_pair name value) pairs) refl
      where
        go : (b : Bool) → list_any (is_pair name value) pairs ≡ b
            → Contains (values_of name pairs) value
        go true e = listed name value pairs e
        go false e = absurd (some (h.absent name value (unlisted name value pairs e)))
