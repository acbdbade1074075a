-- Texts and pairs, and where they stand.
use Rattle.std.proofs.Common.{◌≡◌, ℕ, zero, suc, ◌+◌, ◌<◌, Bool, true, false, ◌&&◌, cond, not, List}
use Rattle.std.proofs.Common.{[], ◌∷◌, length, get_or, Option, Some, None, Result, Ok, refl, sym}
use Rattle.std.proofs.Common.{ap, subst, ◌∙◌, inl, inr, arith}
use Rattle.std.specs.Prelude.{slice_get}
use Rattle.std.specs.Str.{bytes_eq}
use Rattle.std.specs.Ordering.{nat_cmp, is_eq}
use Rattle.std.specs.Cmp.{tied_itself, Equal-is}
use Rattle.std.specs.Cmp.Lexicographic.{texts_ties}
use Rattle.std.specs.FinMap.{IsAntisymmetric, nat_cmp-IsAntisymmetric}
use Rattle.std.proofs.lemmas.Bool.{cases_lt, cases_eq}
use Rattle.std.proofs.lemmas.Map.Lookups.{exact_pairs}
use Rattle.labels.specs.Parts.{carries}
use Rattle.index_reader.specs.declared.error.IndexError.{IndexError}
use Rattle.index_reader.specs.Layout.{ascending, Label, rises}
use Rattle.index_reader.specs.Reading.Steps.{each}
use Rattle.index_reader.specs.Reading.Carried.{Carried}
use Rattle.index_reader.specs.Lookups.{next, index_of, key_cmp, key_before, place_of}
use Rattle.index_reader.specs.Reading.Agreement.{or_disagree, list_of_label}
use Rattle.index_reader.proofs.Orders.{symbols_cmp, number_less, number_greater}
use Rattle.index_reader.proofs.Searching.{keys_total, strict_from_rises, search_found}
use Rattle.wire.proofs.Steps.{bind_ok}
use Rattle.index_reader.proofs.Walks.{ok_is}

pub got : {X : Type 0} (xs : List X) (i : ℕ) (x d : X) → slice_get xs i ≡ Some x → get_or xs i d ≡ x
got [] i x d g = absurd cc
got (y ∷ xs) zero x d g = let e : y ≡ x = cc in e
got (y ∷ xs) (suc i) x d g = got xs i x d g

pub stands_at : {X : Type 0} (xs : List X) (i : ℕ) (d : X) → i < length xs
    → slice_get xs i ≡ Some (get_or xs i d)
stands_at [] i d lt = absurd (omega arith)
stands_at (y ∷ xs) zero d lt = refl
stands_at (y ∷ xs) (suc i) d lt = stands_at xs i d (omega arith)

-- ---- equal bytes

pub bytes_other : (symbols : List (List ℕ)) (i j : ℕ) → ascending symbols ≡ true
    → i < length symbols → j < length symbols → (i ≡ j → ⊥)
    → bytes_eq (get_or symbols i []) (get_or symbols j []) ≡ false
bytes_other symbols i j order a b other =
    let c : is_eq (nat_cmp i j) ≡ false = elim (cases_lt i j) [
      | inl lt ↦ ap is_eq (number_less i j lt)
      | inr le ↦
          elim (cases_eq i j) [
            | inl e ↦ absurd (other e)
            | inr n ↦ let lt : j < i = omega arith in ap is_eq (number_greater i j lt)
          ]
    ] in
    texts_ties (get_or symbols i []) (get_or symbols j [])
    ∙ ap is_eq (symbols_cmp symbols i j order a b)
    ∙ c

pub bytes_full : (a : List ℕ) → 0 < length a → bytes_eq a [] ≡ false
bytes_full [] lt = absurd (omega arith)
bytes_full (x ∷ a) lt = refl

-- ---- the pair of a label set

pub carries_none : (name value : List ℕ) → carries name value [] ≡ false
carries_none name [] = refl
carries_none name (x ∷ value) = refl

pub carries_same : (name value n v : List ℕ) (rest : List (List ℕ × List ℕ))
    → bytes_eq n name ≡ true
    → carries name value ((n, v) ∷ rest) ≡ (not (bytes_eq value []) && bytes_eq v value)
carries_same name value n v rest b = rw b refl

pub carries_other : (name value n v : List ℕ) (rest : List (List ℕ × List ℕ))
    → bytes_eq n name ≡ false → carries name value ((n, v) ∷ rest) ≡ carries name value rest
carries_other name value n v rest b = rw b refl

pub and_false : (b : Bool) → (b && false) ≡ false
and_false true = refl
and_false false = refl

-- ---- places among the pairs of the table

found_next : (o : Option ℕ) (m : ℕ) → next o ≡ Some m → (k : ℕ) × (o ≡ Some k) × (suc k ≡ m)
found_next None m h = absurd cc
found_next (Some k) m h = (k, refl, cc)

at_next : {X : Type 0} (test : X → Bool) (x : X) (xs : List X) (d : X) (k m : ℕ) → suc k ≡ m
    → (k < length xs) × (test (get_or xs k d) ≡ true)
    → (m < suc (length xs)) × (test (get_or (x ∷ xs) m d) ≡ true)
at_next test x xs d k m e h =
    subst (λ (j : ℕ). (j < suc (length xs)) × (test (get_or (x ∷ xs) j d) ≡ true)) e
    (omega (arith, h.0), h.1)

found_step : {X : Type 0} (test : X → Bool) (x : X) (xs : List X) (d : X) (o : Option ℕ) (m : ℕ)
    (b : Bool) → test x ≡ b → cond b (Some 0) (next o) ≡ Some m
    → ((k : ℕ) → o ≡ Some k → (k < length xs) × (test (get_or xs k d) ≡ true))
    → (m < suc (length xs)) × (test (get_or (x ∷ xs) m d) ≡ true)
found_step test x xs d o m true q h more =
    let e : 0 ≡ m = cc in subst (λ (j : ℕ). (j < suc (length xs))
    × (test (get_or (x ∷ xs) j d) ≡ true)) e (omega arith, q)
found_step test x xs d o m false q h more =
    let n = found_next o m h in at_next test x xs d n.0 m n.2 (more n.0 n.1)

pub found_is : {X : Type 0} (test : X → Bool) (xs : List X) (d : X) (m : ℕ)
    → index_of test xs ≡ Some m → (m < length xs) × (test (get_or xs m d) ≡ true)
unfolding index_of
found_is test [] d m h = absurd cc
found_is test (x ∷ xs) d m h =
    found_step test x xs d (index_of test xs) m (test x) refl h (λ k e. found_is test xs d k e)

key_exact : IsAntisymmetric key_cmp
key_exact = exact_pairs nat_cmp nat_cmp nat_cmp-IsAntisymmetric nat_cmp-IsAntisymmetric

-- the place that is found is that of the pair
pub place_found : (keys : List Label) (l : Label) (a : ℕ) → place_of keys l ≡ Some a
    → (a < length keys) × (get_or keys a (0, 0) ≡ l)
place_found keys l a h =
    let f = found_is (λ k. is_eq (key_cmp k l)) keys (0, 0) a h in
    (f.0, key_exact (get_or keys a (0, 0)) l ((Equal-is (key_cmp (get_or keys a (0, 0)) l)).0 f.1))

-- and a pair that stands there is found
pub place_is : (keys : List Label) (k : ℕ) → rises key_before keys ≡ true → k < length keys
    → place_of keys (get_or keys k (0, 0)) ≡ Some k
place_is keys k rising lt =
    let t = get_or keys k (0, 0) in
    search_found key_cmp keys_total keys t t k (strict_from_rises key_cmp keys_total keys rising)
    (stands_at keys k (0, 0) lt) (tied_itself keys_total t)

agreed_ok : {A : Type 0} (o : Option A) (x : A) → or_disagree o ≡ Ok x → o ≡ Some x
agreed_ok (Some y) x h = cc
agreed_ok None x h = absurd cc

pub placed_is : (keys : List Label) (r : ℕ) (l : Label) (c : Carried)
    → list_of_label keys r l ≡ Ok c
    → (a : ℕ) × (place_of keys l ≡ Some a) × (c.0 ≡ a + 1) × (c.1 ≡ r)
unfolding list_of_label
placed_is keys r l c h =
    let a = bind_ok (or_disagree (place_of keys l)) _ c h in
    let made : Carried = (a.0 + 1, r) in
    let e : made ≡ c = ok_is made c a.2 in (
      a.0,
      agreed_ok (place_of keys l) a.0 a.1,
      sym (ap (λ (x : Carried). x.0) e),
      sym (ap (λ (x : Carried). x.1) e),
    )

-- ---- one after another

pub each_cons : {A X : Type 0} (step : A → Result X IndexError) (a : A) (as' : List A) (xs : List X)
    → each step (a ∷ as') ≡ Ok xs
    → (y : X) × (ys : List X) × (step a ≡ Ok y) × (each step as' ≡ Ok ys) × (y ∷ ys ≡ xs)
unfolding each
each_cons step a as' xs h =
    let y = bind_ok (step a) _ xs h in
    let ys = bind_ok (each step as') _ xs y.2 in
    (y.0, ys.0, y.1, ys.1, ok_is (y.0 ∷ ys.0) xs ys.2)

pub each_nil : {A X : Type 0} (step : A → Result X IndexError) (xs : List X)
    → each step [] ≡ Ok xs → [] ≡ xs
unfolding each
each_nil step xs h = ok_is [] xs h
