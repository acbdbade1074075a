-- Binary search finds the one that compares as equal.
use Rattle.std.proofs.Common.{◌≡◌, ℕ, zero, suc, ◌<◌, ◌≤◌, Bool, true, false, ◌&&◌, List, [], ◌∷◌}
use Rattle.std.proofs.Common.{length, get_or, map, Result, Ok, Err, Some, None, refl, sym, ap, ◌∙◌}
use Rattle.std.proofs.Common.{inl, inr, arith}
use Rattle.std.specs.Prelude.{slice_get}
use Rattle.std.specs.List.{AllWithin}
use Rattle.std.specs.List.Sorted.{IsSearchInRange, IsBinarySearchResult, IsNonDecreasingBy}
use Rattle.std.specs.Result.{result_ok}
use Rattle.std.specs.Ordering.{is_lt, is_eq, ordering_index}
use Rattle.std.specs.declared.cmp.Ordering.{Ordering}
use Rattle.std.specs.declared.cmp.Ordering.TheVariants.{Less, Equal, Greater}
use Rattle.std.specs.Cmp.{IsTotalOrder}
use Rattle.std.proofs.lemmas.Bool.{cases_lt}
use Rattle.std.proofs.lemmas.Cmp.{alike_right, nat_cmp_total, on_total, then_total}
use Rattle.std.proofs.lemmas.List.{length-map}
use Rattle.std.proofs.lemmas.Option.{slice_get_past}
use Rattle.labels.specs.Labels.{text_cmp}
use Rattle.index_reader.specs.Layout.{rises, Label, ascending, is_less}
use Rattle.index_reader.specs.Lookups.{index_of, key_cmp}

pub keys_total : IsTotalOrder key_cmp
keys_total =
    then_total (on_total (λ (k : Label). k.0) nat_cmp_total)
    (on_total (λ (k : Label). k.1) nat_cmp_total)

both : (p q : Bool) → (p && q) ≡ true → (p ≡ true) × (q ≡ true)
both true q h = (refl, h)
both false q h = absurd cc

less_is : (o : Ordering) → is_lt o ≡ true → o ≡ Less
less_is Less h = refl
less_is Equal h = absurd cc
less_is Greater h = absurd cc

-- each is below all behind it
abbrev pub Strict : {X : Type 0} → (X → X → Ordering) → List X → Type 0
Strict {X} cmp xs =
    (i j : ℕ) (a b : X) → i < j → slice_get xs i ≡ Some a → slice_get xs j ≡ Some b → cmp a b ≡ Less

abbrev pub lower : {X : Type 0} → (X → X → Ordering) → X → X → Bool
lower cmp a b = is_lt (cmp a b)

head_less : {X : Type 0} (cmp : X → X → Ordering) → IsTotalOrder cmp
    → (a : X) (xs : List X) (j : ℕ) (b : X) → rises (lower cmp) (a ∷ xs) ≡ true
    → slice_get xs j ≡ Some b → cmp a b ≡ Less
unfolding rises
head_less cmp total a [] j b h g = absurd cc
head_less cmp total a (x ∷ xs) zero b h g =
    let e : x ≡ b = cc in
    let l : cmp a x ≡ Less =
    less_is (cmp a x) (both (lower cmp a x) (rises (lower cmp) (x ∷ xs)) h).0 in
    rw e at l
head_less cmp total a (x ∷ xs) (suc j) b h g =
    let p = both (lower cmp a x) (rises (lower cmp) (x ∷ xs)) h in
    total.trans a x b (less_is (cmp a x) p.0) (head_less cmp total x xs j b p.1 g)

tail_rises : {X : Type 0} (cmp : X → X → Ordering) (a : X) (xs : List X)
    → rises (lower cmp) (a ∷ xs) ≡ true → rises (lower cmp) xs ≡ true
unfolding rises
tail_rises cmp a [] h = refl
tail_rises cmp a (x ∷ xs) h = (both (lower cmp a x) (rises (lower cmp) (x ∷ xs)) h).1

pub strict_from_rises : {X : Type 0} (cmp : X → X → Ordering) → IsTotalOrder cmp → (xs : List X)
    → rises (lower cmp) xs ≡ true → Strict cmp xs
strict_from_rises cmp total [] h i j a b lt g g' = absurd cc
strict_from_rises cmp total (x ∷ xs) h i zero a b lt g g' = absurd (omega arith)
strict_from_rises cmp total (x ∷ xs) h zero (suc j) a b lt g g' =
    let e : x ≡ a = cc in
    let l : cmp x b ≡ Less = head_less cmp total x xs j b h g' in
    rw e at l
strict_from_rises cmp total (x ∷ xs) h (suc i) (suc j) a b lt g g' =
    strict_from_rises cmp total xs (tail_rises cmp x xs h) i j a b (omega arith) g g'

pub ascending_is : (xs : List (List ℕ)) → ascending xs ≡ rises (lower text_cmp) xs
unfolding ascending rises
ascending_is [] = refl
ascending_is (x ∷ []) = refl
ascending_is (x ∷ y ∷ xs) = ap (λ (b : Bool). is_less x y && b) (ascending_is (y ∷ xs))

before_equal : {X : Type 0} (cmp : X → X → Ordering) → IsTotalOrder cmp
    → (xs : List X) (t x : X) (m : ℕ) → Strict cmp xs → slice_get xs m ≡ Some x → cmp x t ≡ Equal
    → (k : ℕ) (a : X) → k < m → slice_get xs k ≡ Some a → cmp a t ≡ Less
before_equal cmp total xs t x m strict g e k a lt g' =
    sym (alike_right total x t a e) ∙ strict k m a x lt g' g

index_found : {X : Type 0} (test : X → Bool) (xs : List X) (m : ℕ) (x : X) → slice_get xs m ≡ Some x
    → test x ≡ true → ((k : ℕ) (a : X) → k < m → slice_get xs k ≡ Some a → test a ≡ false)
    → index_of test xs ≡ Some m
unfolding index_of
index_found test [] m x g t before = absurd cc
index_found test (y ∷ xs) zero x g t before = let e : y ≡ x = cc in rw (e, t) refl
index_found test (y ∷ xs) (suc m) x g t before = rw (
  before 0 y (omega arith) refl,
  index_found test xs m x g t (λ k a lt g'. before (suc k) a (omega arith) g'),
) refl

index_none : {X : Type 0} (test : X → Bool) (xs : List X)
    → ((k : ℕ) (a : X) → slice_get xs k ≡ Some a → test a ≡ false) → index_of test xs ≡ None
unfolding index_of
index_none test [] none = refl
index_none test (y ∷ xs) none =
    rw (none 0 y refl, index_none test xs (λ k a g. none (suc k) a g)) refl

pub search_found : {X : Type 0} (cmp : X → X → Ordering) → IsTotalOrder cmp
    → (xs : List X) (t x : X) (m : ℕ) → Strict cmp xs → slice_get xs m ≡ Some x → cmp x t ≡ Equal
    → index_of (λ a. is_eq (cmp a t)) xs ≡ Some m
search_found cmp total xs t x m strict g e =
    index_found (λ a. is_eq (cmp a t)) xs m x g (ap is_eq e) (λ k a lt g'.
    ap is_eq (before_equal cmp total xs t x m strict g e k a lt g'))

search_none : {X : Type 0} (cmp : X → X → Ordering) (xs : List X) (t : X) (i : ℕ)
    → ((k : ℕ) (a : X) → k < i → slice_get xs k ≡ Some a → cmp a t ≡ Less)
    → ((k : ℕ) (a : X) → i ≤ k → slice_get xs k ≡ Some a → cmp a t ≡ Greater)
    → index_of (λ a. is_eq (cmp a t)) xs ≡ None
search_none cmp xs t i below above =
    index_none (λ a. is_eq (cmp a t)) xs (λ k a g.
    elim (cases_lt k i) [
      | inl lt ↦ ap is_eq (below k a lt g)
      | inr from ↦ ap is_eq (above k a from g)
    ])

at_most_two : (o : Ordering) → ordering_index o ≤ 2
at_most_two Less = omega arith
at_most_two Equal = omega arith
at_most_two Greater = omega arith

module _ {E X : Type 0} (f : E → X) (cmp : X → X → Ordering) (total : IsTotalOrder cmp) (t : X) where
  stands : (xs : List E) (i : ℕ) (d : E) → i < length xs
      → slice_get (map f xs) i ≡ Some (f (get_or xs i d))
  stands [] i d lt = absurd (omega arith)
  stands (x ∷ xs) zero d lt = refl
  stands (x ∷ xs) (suc i) d lt = stands xs i d (omega arith)

  climbs : (a b : X) (o : Ordering) → cmp a b ≡ Less → cmp b t ≡ o
      → ordering_index (cmp a t) ≤ ordering_index o
  climbs a b Less less e = rw (total.trans a b t less e) (omega arith)
  climbs a b Equal less e = rw (sym (alike_right total b t a e) ∙ less) (omega arith)
  climbs a b Greater less e = at_most_two (cmp a t)

  rise : (xs : List E) → Strict cmp (map f xs)
      → IsNonDecreasingBy (λ y. ordering_index (cmp (f y) t)) xs
  rise xs strict i j d le lt =
      elim (cases_lt i j) [
        | inl below ↦
            let a : E = get_or xs i d in
            let b : E = get_or xs j d in
            let less : cmp (f a) (f b) ≡ Less =
            strict i j (f a) (f b) below (stands xs i d (omega arith)) (stands xs j d lt) in
            climbs (f a) (f b) (cmp (f b) t) less refl
        | inr from ↦
            let same : i ≡ j = omega arith in
            let e = ap (λ k. ordering_index (cmp (f (get_or xs k d)) t)) same in
            omega (arith, e)
      ]

  below_place : (x : E) (xs : List E) (i : ℕ) → i ≤ length xs
      → AllWithin (λ y. cmp (f y) t ≡ Less) xs 0 i
      → (k : ℕ) (a : X) → k < i → slice_get (map f xs) k ≡ Some a → cmp a t ≡ Less
  below_place x xs i within less k a lt g =
      let s : slice_get (map f xs) k ≡ Some (f (get_or xs k x)) = stands xs k x (omega arith) in
      let e : a ≡ f (get_or xs k x) = cc in
      rw e (less k x (omega arith) lt)

  above_place : (x : E) (xs : List E) (i : ℕ)
      → AllWithin (λ y. cmp (f y) t ≡ Greater) xs i (length xs)
      → (k : ℕ) (a : X) → i ≤ k → slice_get (map f xs) k ≡ Some a → cmp a t ≡ Greater
  above_place x xs i more k a from g =
      elim (cases_lt k (length xs)) [
        | inl lt ↦
            let s : slice_get (map f xs) k ≡ Some (f (get_or xs k x)) = stands xs k x lt in
            let e : a ≡ f (get_or xs k x) = cc in
            rw e (more k x from lt)
        | inr past ↦
            let n = length-map xs f in
            let none = slice_get_past (map f xs) k (omega (arith, n)) in
            absurd cc
      ]

  -- what std's search answers is the place of the first that compares as equal
  pub search_is : (xs : List E) (r : Result ℕ ℕ) → Strict cmp (map f xs)
      → IsSearchInRange r (length xs) → IsBinarySearchResult (λ y. cmp (f y) t) xs r
      → result_ok r ≡ index_of (λ a. is_eq (cmp a t)) (map f xs)
  search_is [] (Ok i) strict range is = absurd (omega (arith, range))
  search_is [] (Err i) strict range is = sym (index_none (λ a. is_eq (cmp a t)) [] (λ k a g. absurd cc))
  search_is (x ∷ xs) (Ok i) strict range is =
      sym (search_found cmp total (map f (x ∷ xs)) t (f (get_or (x ∷ xs) i x)) i strict
      (stands (x ∷ xs) i x range) (is x))
  search_is (x ∷ xs) (Err i) strict range is =
      let parts = is (rise (x ∷ xs) strict) in
      sym (search_none cmp (map f (x ∷ xs)) t i
      (below_place x (x ∷ xs) i range parts.0) (above_place x (x ∷ xs) i parts.1))
