-- The lists of one name stand together.
use Rattle.std.proofs.Common.{◌≡◌, ℕ, zero, suc, ◌+◌, ◌-◌, ◌<◌, ◌≤◌, Bool, true, false, cond, ◌⊎◌, inl, inr, List, [], ◌∷◌, length, map, take, drop, get_or, refl, sym, ap, ◌∙◌, arith}
use Rattle.std.specs.Prelude.{filter}
use Rattle.std.specs.Str.{bytes_eq}
use Rattle.std.specs.List.Sorted.{IsPartitionPoint}
use Rattle.std.specs.Ordering.{nat_cmp, ordering_then, is_eq, is_lt, is_le}
use Rattle.std.specs.declared.cmp.Ordering.{Ordering}
use Rattle.std.specs.declared.cmp.Ordering.TheVariants.{Less, Equal, Greater}
use Rattle.std.specs.Cmp.Lexicographic.{slice_cmp, texts_ties}
use Rattle.std.proofs.lemmas.Cmp.{nat_list_cmp_total, alike_right}
use Rattle.std.proofs.lemmas.List.{get_or-map}
use Rattle.labels.specs.Labels.{pair_cmp}
use Rattle.labels.proofs.Times.{true_not_false}
use Rattle.head.specs.Index.{Pair, PairLists}
use Rattle.labels.specs.Labels.{text_cmp}
use Rattle.head.specs.Places.{IsNameBoundary, IsRunOf}

-- a smaller pair has a smaller name or the same one
smaller_name : (n m : List ℕ) (o s : Ordering) → text_cmp n m ≡ o → ordering_then o s ≡ Less → (text_cmp n m ≡ Less) ⊎ (text_cmp n m ≡ Equal)
smaller_name n m Less s e l = inl e
smaller_name n m Equal s e l = inr e
smaller_name n m Greater s e l = absurd cc

lt_through : (n m name : List ℕ) (o : Ordering) → text_cmp n m ≡ Less → text_cmp m name ≡ o → is_lt o ≡ true → is_lt (text_cmp n name) ≡ true
lt_through n m name Less l e t = ap is_lt (nat_list_cmp_total.trans n m name l e)
lt_through n m name Equal l e t = absurd (true_not_false (sym t))
lt_through n m name Greater l e t = absurd (true_not_false (sym t))

le_through : (n m name : List ℕ) (o : Ordering) → text_cmp n m ≡ Less → text_cmp m name ≡ o → is_le o ≡ true → is_le (text_cmp n name) ≡ true
le_through n m name Less l e t = ap is_le (nat_list_cmp_total.trans n m name l e)
le_through n m name Equal l e t = ap is_le (sym (alike_right nat_list_cmp_total m name n e) ∙ l)
le_through n m name Greater l e t = absurd (true_not_false (sym t))

pub names_below : (name : List ℕ) (a b : Pair) → pair_cmp a b ≡ Less → is_lt (text_cmp b.0 name) ≡ true → is_lt (text_cmp a.0 name) ≡ true
names_below name a b less t = elim (smaller_name a.0 b.0 (text_cmp a.0 b.0) (text_cmp a.1 b.1) refl less) [
  | inl l ↦ lt_through a.0 b.0 name (text_cmp b.0 name) l refl t
  | inr e ↦ ap is_lt (nat_list_cmp_total.congr a.0 b.0 name e) ∙ t
]

pub names_up_to : (name : List ℕ) (a b : Pair) → pair_cmp a b ≡ Less → is_le (text_cmp b.0 name) ≡ true → is_le (text_cmp a.0 name) ≡ true
names_up_to name a b less t = elim (smaller_name a.0 b.0 (text_cmp a.0 b.0) (text_cmp a.1 b.1) refl less) [
  | inl l ↦ le_through a.0 b.0 name (text_cmp b.0 name) l refl t
  | inr e ↦ ap is_le (nat_list_cmp_total.congr a.0 b.0 name e) ∙ t
]

module _ {X : Type 0} (f : X → Pair × List ℕ) where
  some_of : (xs : List X) (i : ℕ) → i < length xs → X
  some_of [] i l = absurd (omega (arith, l))
  some_of (x ∷ xs) i l = x

  length_map : (xs : List X) → length (map f xs) ≡ length xs
  length_map [] = refl
  length_map (x ∷ xs) = ap suc (length_map xs)

  -- where a test of names was searched for
  pub boundary : (test : List ℕ → Bool) (xs : List X) (i : ℕ) → i ≤ length xs → IsPartitionPoint (λ x. test (f x).0.0 ≡ true) (λ x. test (f x).0.0 ≡ false) xs i → IsNameBoundary test (map f xs) i
  boundary test xs i l point = record {
    in_range = omega (arith, l, length_map xs);
    passes_before = λ k e b.
        let inside : k < length xs = omega (arith, l, b) in
        let d = some_of xs k inside in
        ap (λ (z : Pair × List ℕ). test z.0.0) (get_or-map f xs k d e inside) ∙ point.0 k d (omega arith) b;
    fails_after = λ k e a b.
        let inside : k < length xs = omega (arith, b, length_map xs) in
        let d = some_of xs k inside in
        ap (λ (z : Pair × List ℕ). test z.0.0) (get_or-map f xs k d e inside) ∙ point.1 k d a inside;
  }

take_none : {X : Type 0} (xs : List X) → take 0 xs ≡ []
take_none [] = refl
take_none (x ∷ xs) = refl

drop_of_nil : {X : Type 0} (n a : ℕ) → ◌≡◌ {A = List X} [] (take n (drop a []))
drop_of_nil zero zero = refl
drop_of_nil zero (suc a) = refl
drop_of_nil (suc n) zero = refl
drop_of_nil (suc n) (suc a) = refl

-- what passes stands from one place to another
filter_run : {X : Type 0} (p : X → Bool) (xs : List X) (a n : ℕ) → a + n ≤ length xs
    → ((k : ℕ) (d : X) → k < a → p (get_or xs k d) ≡ false) → ((k : ℕ) (d : X) → a ≤ k → k < a + n → p (get_or xs k d) ≡ true) → ((k : ℕ) (d : X) → a + n ≤ k → k < length xs → p (get_or xs k d) ≡ false)
    → filter p xs ≡ take n (drop a xs)
filter_run p [] a n l before within after = drop_of_nil n a
filter_run p (x ∷ xs) zero zero l before within after =
    ap (λ b. cond b (x ∷ filter p xs) (filter p xs)) (after zero x (omega arith) (omega arith))
    ∙ filter_run p xs zero zero (omega arith) (λ k d b. absurd (omega (arith, b))) (λ k d a b. absurd (omega (arith, b))) (λ k d a b. after (suc k) d (omega arith) (omega (arith, b)))
    ∙ take_none xs
filter_run p (x ∷ xs) zero (suc n) l before within after =
    ap (λ b. cond b (x ∷ filter p xs) (filter p xs)) (within zero x (omega arith) (omega arith))
    ∙ ap (λ ys. x ∷ ys) (filter_run p xs zero n (omega (arith, l)) (λ k d b. absurd (omega (arith, b))) (λ k d a b. within (suc k) d (omega arith) (omega (arith, b))) (λ k d a b. after (suc k) d (omega (arith, a)) (omega (arith, b))))
filter_run p (x ∷ xs) (suc a) n l before within after =
    ap (λ b. cond b (x ∷ filter p xs) (filter p xs)) (before zero x (omega arith))
    ∙ filter_run p xs a n (omega (arith, l)) (λ k d b. before (suc k) d (omega (arith, b))) (λ k d c b. within (suc k) d (omega (arith, c)) (omega (arith, b))) (λ k d c b. after (suc k) d (omega (arith, c)) (omega (arith, b)))

tied_not_less : (o : Ordering) → is_lt o ≡ true → is_eq o ≡ false
tied_not_less Less t = refl
tied_not_less Equal t = absurd (true_not_false (sym t))
tied_not_less Greater t = refl

tied_between : (o : Ordering) → is_lt o ≡ false → is_le o ≡ true → is_eq o ≡ true
tied_between Less f t = absurd (true_not_false f)
tied_between Equal f t = refl
tied_between Greater f t = absurd (true_not_false (sym t))

tied_not_greater : (o : Ordering) → is_le o ≡ false → is_eq o ≡ false
tied_not_greater Less f = absurd (true_not_false f)
tied_not_greater Equal f = absurd (true_not_false f)
tied_not_greater Greater f = refl

lt_is_le : (o : Ordering) → is_lt o ≡ true → is_le o ≡ false → ⊥
lt_is_le Less t f = true_not_false f
lt_is_le Equal t f = true_not_false f
lt_is_le Greater t f = true_not_false (sym t)

first_entry : (lists : PairLists) → 0 < length lists → Pair × List ℕ
first_entry [] l = absurd (omega (arith, l))
first_entry (e ∷ es) l = e

boundaries_ordered : (name : List ℕ) (lists : PairLists) (a b : ℕ) → IsNameBoundary (λ n. is_lt (slice_cmp nat_cmp n name)) lists a → IsNameBoundary (λ n. is_le (slice_cmp nat_cmp n name)) lists b → b < a → ⊥
boundaries_ordered name lists a b before up_to l =
    let d : Pair × List ℕ = first_entry lists (omega (arith, before.in_range)) in
    lt_is_le (text_cmp (get_or lists b d).0.0 name) (before.passes_before b d l) (up_to.fails_after b d (omega arith) (omega (arith, before.in_range)))

in_order : (a b : ℕ) → (b < a → ⊥) → a ≤ b
in_order a b h = elim (cases a b) [ inl l ↦ l | inr l ↦ absurd (h l) ]
  where
    cases : (x y : ℕ) → (x ≤ y) ⊎ (y < x)
    cases zero y = inl (omega arith)
    cases (suc x) zero = inr (omega arith)
    cases (suc x) (suc y) = elim (cases x y) [ inl l ↦ inl (omega (arith, l)) | inr l ↦ inr (omega (arith, l)) ]

pub run_between : (name : List ℕ) (lists : PairLists) (a b : ℕ) → IsNameBoundary (λ n. is_lt (slice_cmp nat_cmp n name)) lists a → IsNameBoundary (λ n. is_le (slice_cmp nat_cmp n name)) lists b → IsRunOf name lists a b
run_between name lists a b before up_to =
    let le : a ≤ b = in_order a b (boundaries_ordered name lists a b before up_to) in
    record {
      ordered = le;
      in_range = up_to.in_range;
      values = ap (map (λ (e : Pair × List ℕ). e.0.1)) (filter_run (λ (e : Pair × List ℕ). bytes_eq e.0.0 name) lists a (b - a) (omega (arith, le, up_to.in_range))
          (λ k d l. texts_ties (get_or lists k d).0.0 name ∙ tied_not_less (text_cmp (get_or lists k d).0.0 name) (before.passes_before k d l))
          (λ k d g l. texts_ties (get_or lists k d).0.0 name ∙ tied_between (text_cmp (get_or lists k d).0.0 name) (before.fails_after k d g (omega (arith, l, le, up_to.in_range))) (up_to.passes_before k d (omega (arith, l, le))))
          (λ k d g l. texts_ties (get_or lists k d).0.0 name ∙ tied_not_greater (text_cmp (get_or lists k d).0.0 name) (up_to.fails_after k d (omega (arith, g, le)) l)));
    }
