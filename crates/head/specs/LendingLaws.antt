-- What an index lends for its part.
use Rattle.std.proofs.Common.{◌≡◌, ℕ, zero, suc, ◌+◌, ◌<◌, Bool, true, false, cond, inl, inr, List}
use Rattle.std.proofs.Common.{[], ◌∷◌, length, map, get_or, Option, Some, None, unwrap_or, refl}
use Rattle.std.proofs.Common.{sym, ◌∙◌, ap, subst, arith}
use Rattle.std.specs.Prelude.{T, filter}
use Rattle.std.specs.List.{Contains}
use Rattle.std.specs.List.Sorted.{IsStrictlyIncreasing}
use Rattle.std.specs.Str.{bytes_eq}
use Rattle.std.specs.Ordering.{ordering_then, eq_by_cmp, is_eq, is_lt}
use Rattle.std.specs.declared.cmp.Ordering.{Ordering}
use Rattle.std.specs.declared.cmp.Ordering.TheVariants.{Less, Equal, Greater}
use Rattle.std.specs.Cmp.{tied_itself, Equal-is}
use Rattle.std.specs.Cmp.Lexicographic.{texts_ties}
use Rattle.std.specs.FinMap.Entries.{find, is_sorted, is_sorted-where_key}
use Rattle.labels.specs.Labels.{text_cmp, pair_cmp, value_of}
use Rattle.labels.specs.Rows.{Row}
use Rattle.labels.specs.Parts.{Part, references_where, carries, IsPart}
use Rattle.labels.proofs.Lists.{here, there, Contains-cases, none_in_nil}
use Rattle.labels.proofs.Texts.{text_self, pair_total, pair_exact, bytes_exact}
use Rattle.labels.proofs.PartRows.{kept_rises, some_row, row_kept, carried_itself}
use Rattle.labels.proofs.Times.{first_T, second_T}
use Rattle.postings.specs.Values.{AreAscending, AreValuesOf}
use Rattle.head.specs.Index.{Pair, PairLists, values_under, IsIndexOf}

module _ (lists : PairLists) (part : Part) (h : IsIndexOf lists part) where
  -- what is listed at a pair is what the part has of it
  pub lent : (n v l : List ℕ) → find pair_cmp (n, v) lists ≡ Some l
      → l ≡ references_where (carries n v) part
  lent n v l e = sym (ap (λ (o : Option (List ℕ)). unwrap_or o []) e) ∙ h.listed n v

  pub lent_none : (n v : List ℕ) → find pair_cmp (n, v) lists ≡ None
      → references_where (carries n v) part ≡ []
  lent_none n v e = sym (h.listed n v) ∙ ap (λ (o : Option (List ℕ)). unwrap_or o []) e

  pub lent_some : (n v l : List ℕ) → find pair_cmp (n, v) lists ≡ Some l
      → references_where (carries n v) part ≡ [] → ⊥
  lent_some n v l e none = h.filled n v (e ∙ ap (λ (ys : List ℕ). Some ys) (lent n v l e ∙ none))

  pub lent_rises : (n v l : List ℕ) → IsPart part → find pair_cmp (n, v) lists ≡ Some l
      → IsStrictlyIncreasing l
  lent_rises n v l p e =
      subst IsStrictlyIncreasing (sym (lent n v l e))
      (kept_rises (λ row. carries n v row.1.0) part p.ascending)

-- each of these pairs has the name
AllNamed : List ℕ → PairLists → Type 0
AllNamed name [] = Unit {0}
AllNamed name (e ∷ es) = (bytes_eq e.0.0 name ≡ true) × AllNamed name es

named : (name : List ℕ) (es : PairLists) → AllNamed name (filter (λ e. bytes_eq e.0.0 name) es)
unfolding AllNamed
named name [] = tt
named name (e ∷ es) = go (bytes_eq e.0.0 name) refl (named name es)
  where
    go : (b : Bool) → bytes_eq e.0.0 name ≡ b
        → AllNamed name (filter (λ (x : Pair × List ℕ). bytes_eq x.0.0 name) es)
        → AllNamed name
        (cond b (e ∷ filter (λ (x : Pair × List ℕ). bytes_eq x.0.0 name) es)
        (filter (λ (x : Pair × List ℕ). bytes_eq x.0.0 name) es))
    go true q rest = (q, rest)
    go false q rest = rest

less_is : (o : Ordering) → T (is_lt o) → o ≡ Less
less_is Less t = refl
less_is Equal t = absurd t
less_is Greater t = absurd t

-- of two pairs of one name the smaller has the smaller value
value_less : (name : List ℕ) (a b : Pair) → bytes_eq a.0 name ≡ true → bytes_eq b.0 name ≡ true
    → T (is_lt (pair_cmp a b)) → text_cmp a.1 b.1 ≡ Less
value_less name a b p q l =
    let same : a.0 ≡ b.0 = bytes_exact a.0 name p ∙ sym (bytes_exact b.0 name q) in
    let tie : text_cmp a.0 b.0 ≡ Equal =
    subst (λ (m : List ℕ). text_cmp a.0 m ≡ Equal) same (text_self a.0) in
    sym (ap (λ o. ordering_then o (text_cmp a.1 b.1)) tie) ∙ less_is (pair_cmp a b) l

ascend : (name : List ℕ) (es : PairLists) → T (is_sorted pair_cmp es) → AllNamed name es → (k : ℕ)
    → suc k < length (map (λ (e : Pair × List ℕ). e.0.1) es)
    → text_cmp (get_or (map (λ (e : Pair × List ℕ). e.0.1) es) k [])
    (get_or (map (λ (e : Pair × List ℕ). e.0.1) es) (suc k) []) ≡ Less
unfolding AllNamed
ascend name [] h n k l = absurd (omega (arith, l))
ascend name (e ∷ []) h n k l = absurd (omega (arith, l))
ascend name (e ∷ f ∷ es) h n zero l =
    value_less name e.0 f.0 n.0 n.1.0 (first_T _ _ (first_T _ _ h))
ascend name (e ∷ f ∷ es) h n (suc k) l =
    ascend name (f ∷ es) (second_T _ _ h) n.1 k (omega (arith, l))

ascending_under : (name : List ℕ) (lists : PairLists) → T (is_sorted pair_cmp lists)
    → AreAscending (values_under name lists)
ascending_under name lists h k l =
    let e : suc k ≡ k + 1 = omega arith in
    subst (λ (m : ℕ). text_cmp (get_or (values_under name lists) k [])
    (get_or (values_under name lists) m []) ≡ Less) e
    (ascend name (filter (λ (x : Pair × List ℕ). bytes_eq x.0.0 name) lists)
    (is_sorted-where_key pair_cmp (λ p. bytes_eq p.0 name) lists h) (named name lists) k
    (omega (arith, l)))

not_none : {X : Type 0} (x : X) → Some x ≡ None → ⊥
not_none x e = cc

-- a value under a name is that of a listed pair, and the other way round
found_under : (name value : List ℕ) (lists : PairLists) → Contains (values_under name lists) value
    → find pair_cmp (name, value) lists ≡ None → ⊥
found_under name value [] c e = none_in_nil value c
found_under name value (x ∷ xs) c e = go (bytes_eq x.0.0 name) refl (found_under name value xs) c
  where
    skip : (b : Bool) → (find pair_cmp (name, value) xs ≡ None → ⊥)
        → cond b (Some x.1) (find pair_cmp (name, value) xs) ≡ None → ⊥
    skip true h q = not_none x.1 q
    skip false h q = h q

    go : (b : Bool) → bytes_eq x.0.0 name ≡ b
        → (Contains (values_under name xs) value → find pair_cmp (name, value) xs ≡ None → ⊥)
        → Contains
        (map (λ (y : Pair × List ℕ). y.0.1)
        (cond b (x ∷ filter (λ (y : Pair × List ℕ). bytes_eq y.0.0 name) xs)
        (filter (λ (y : Pair × List ℕ). bytes_eq y.0.0 name) xs))) value → ⊥
    go true q ih d = elim (Contains-cases x.0.1 (values_under name xs) value d) [
      | inl same ↦
          let at : (name, value) ≡ x.0 = λ i. (sym (bytes_exact x.0.0 name q) i, sym same i) in
          let tie : pair_cmp (name, value) x.0 ≡ Equal =
          subst (λ (p : Pair). pair_cmp (name, value) p ≡ Equal) at
          (tied_itself pair_total (name, value)) in
          not_none x.1
          (sym (ap (λ o. cond (is_eq o) (Some x.1) (find pair_cmp (name, value) xs)) tie) ∙ e)
      | inr m ↦ skip (eq_by_cmp pair_cmp (name, value) x.0) (ih m) e
    ]
    go false q ih d = skip (eq_by_cmp pair_cmp (name, value) x.0) (ih d) e

value_under : (name value : List ℕ) (lists : PairLists)
    → (find pair_cmp (name, value) lists ≡ None → ⊥) → Contains (values_under name lists) value
value_under name value [] h = absurd (h refl)
value_under name value (x ∷ xs) h =
    go (eq_by_cmp pair_cmp (name, value) x.0) refl (value_under name value xs)
  where
    more : (b : Bool) → Contains (values_under name xs) value
        → Contains
        (map (λ (y : Pair × List ℕ). y.0.1)
        (cond b (x ∷ filter (λ (y : Pair × List ℕ). bytes_eq y.0.0 name) xs)
        (filter (λ (y : Pair × List ℕ). bytes_eq y.0.0 name) xs))) value
    more true c = there x.0.1 value (values_under name xs) c
    more false c = c

    go : (b : Bool) → eq_by_cmp pair_cmp (name, value) x.0 ≡ b
        → ((find pair_cmp (name, value) xs ≡ None → ⊥) → Contains (values_under name xs) value)
        → Contains (values_under name (x ∷ xs)) value
    go true q ih =
        let same : (name, value) ≡ x.0 =
        pair_exact (name, value) x.0 ((Equal-is (pair_cmp (name, value) x.0)).0 q) in
        let here_name : bytes_eq x.0.0 name ≡ true =
        subst (λ (p : Pair). bytes_eq p.0 name ≡ true) same
        (texts_ties name name ∙ ap is_eq (text_self name)) in
        subst (λ (b : Bool). Contains
        (map (λ (y : Pair × List ℕ). y.0.1)
        (cond b (x ∷ filter (λ (y : Pair × List ℕ). bytes_eq y.0.0 name) xs)
        (filter (λ (y : Pair × List ℕ). bytes_eq y.0.0 name) xs))) value) (sym here_name)
        (subst (λ (v : List ℕ). Contains (v ∷ values_under name xs) value)
        (ap (λ (p : Pair). p.1) same) (here value (values_under name xs)))
    go false q ih =
        more (bytes_eq x.0.0 name)
        (ih (λ e. h (ap (λ b. cond b (Some x.1) (find pair_cmp (name, value) xs)) q ∙ e)))

-- the values that are listed under a name are those that it has in the part
pub are_values_under : (lists : PairLists) (part : Part) (name : List ℕ) → IsIndexOf lists part
    → AreValuesOf part name (values_under name lists)
are_values_under lists part name h = record {
  ascending = ascending_under name lists h.ascending;
  carried = λ value c. go value c (find pair_cmp (name, value) lists) refl;
  present = λ row c some.
      value_under name (value_of row.1.0 name) lists (λ e.
      row_kept (carries name (value_of row.1.0 name)) part row c
      (carried_itself (value_of row.1.0 name) some)
      (lent_none lists part h name (value_of row.1.0 name) e));
}
  where
    go : (value : List ℕ) → Contains (values_under name lists) value → (o : Option (List ℕ))
        → find pair_cmp (name, value) lists ≡ o
        → (row : ℕ × Row) × (Contains part row × (carries name value row.1.0 ≡ true))
    go value c None e = absurd (found_under name value lists c e)
    go value c (Some l) e =
        some_row (carries name value) part (lent_some lists part h name value l e)
