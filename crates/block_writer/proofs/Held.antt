-- What a list holds after it was sorted and what stood twice was dropped; the place of one of a
-- sorted list.
use Rattle.std.proofs.Common.{◌≡◌, ℕ, zero, suc, ◌<◌, ◌≤◌, Bool, true, false, ◌&&◌, List, [], ◌∷◌}
use Rattle.std.proofs.Common.{length, get_or, refl, sym, ap, subst, ◌∙◌, arith}
use Rattle.std.specs.Prelude.{map}
use Rattle.std.specs.Borrow.{Bor}
use Rattle.std.specs.List.{AllByRecursion, Contains, dedup}
use Rattle.std.specs.List.Retain.{IsFiltered, DiffersFromLast}
use Rattle.std.specs.List.Sorted.{IsPermutation, IsSorted, IsStrictlySortedBy, IsPartitionedBy}
use Rattle.std.specs.List.Sorted.{IsPartitionPoint}
use Rattle.std.specs.declared.cmp.Ordering.{Ordering}
use Rattle.std.specs.declared.cmp.Ordering.TheVariants.{Less, Equal, Greater}
use Rattle.std.specs.Ordering.{is_lt, is_eq, nat_cmp, ordering_then, ordering_reverse, eq_by_cmp}
use Rattle.std.specs.Cmp.{IsTotalOrder, IsEquivalence, Equal-is, eq_by_cmp_equiv, tied_itself}
use Rattle.std.specs.Cmp.Lexicographic.{slice_cmp, texts_ties}
use Rattle.std.specs.FinMap.{IsAntisymmetric}
use Rattle.std.specs.Str.{bytes_eq}
use Rattle.std.proofs.lemmas.Cmp.{on_total}
use Rattle.std.proofs.lemmas.List.Filters.{dedup_is}
use Rattle.std.proofs.lemmas.List.Kept.{Any-dedup, Contains-from_dedup, IsStrictlySortedBy-dedup}
use Rattle.std.proofs.lemmas.List.Sorted.{Contains-permutation, IsPermutation-sym}
use Rattle.labels.specs.Labels.{pair_cmp}
use Rattle.block_writer.specs.InUse.{HoldsEachOnce}
use Rattle.block_writer.specs.EntryBodies.{place_among}

-- ---- elements under a function

pub Contains-cons : {X : Type 0} (y : X) (xs : List X) (x : X) → Contains xs x → Contains (y ∷ xs) x
Contains-cons y xs x h = (suc h.0, omega (arith, h.1), h.2)

pub from_map : {X K : Type 0} (f : X → K) (xs : List X) (k : K) (i : ℕ) → i < length (map f xs)
    → get_or (map f xs) i k ≡ k → (x : X) × Contains xs x × (f x ≡ k)
from_map f [] k i lt e = absurd (omega (arith, lt))
from_map f (x ∷ xs) k zero lt e = (x, (0, omega arith, refl), e)
from_map f (x ∷ xs) k (suc i) lt e =
    let r = from_map f xs k i (omega (arith, lt)) e in
    (r.0, Contains-cons x xs r.0 r.1, r.2)

to_map : {X K : Type 0} (f : X → K) (xs : List X) (x : X) (i : ℕ) → i < length xs
    → get_or xs i x ≡ x → Contains (map f xs) (f x)
to_map f [] x i lt e = absurd (omega (arith, lt))
to_map f (y ∷ xs) x zero lt e = (0, omega arith, ap f e)
to_map f (y ∷ xs) x (suc i) lt e =
    Contains-cons (f y) (map f xs) (f x) (to_map f xs x i (omega (arith, lt)) e)

pub in_map : {X K : Type 0} (f : X → K) (xs : List X) (x : X) → Contains xs x
    → Contains (map f xs) (f x)
in_map f xs x h = to_map f xs x h.0 h.1 h.2

all_under : {X K : Type 0} (f : X → K) (P : K → Type 0) (xs : List X)
    → AllByRecursion (λ x. P (f x)) xs → AllByRecursion P (map f xs)
all_under f P [] h = tt
all_under f P (x ∷ xs) h = (h.0, all_under f P xs h.1)

sorted_under : {X K : Type 0} (f : X → K) (cmp : K → K → Ordering) (xs : List X)
    → IsStrictlySortedBy (λ x y. cmp (f x) (f y)) xs → IsStrictlySortedBy cmp (map f xs)
unfolding IsStrictlySortedBy
sorted_under f cmp [] h = tt
sorted_under f cmp (x ∷ xs) h =
    (all_under f (λ k. cmp (f x) k ≡ Less) xs h.0, sorted_under f cmp xs h.1)

-- ---- after a sort, and without what stands twice

kept_one : {X : Type 0} (E : X → X → Bool) (R : X → X → Ordering) → IsTotalOrder R
    → ((x y : X) → E x y ≡ eq_by_cmp R x y) → (xs : List X) (x : X) → Contains xs x
    → (y : X) × Contains (dedup E xs) y × (E x y ≡ true)
kept_one E R o ties xs x h =
    let same : E ≡ eq_by_cmp R = λ i a b. ties a b i in
    let found = Any-dedup (subst IsEquivalence (sym same) (eq_by_cmp_equiv o)) xs x h in
    (found.1, (found.0, found.2, found.3), found.4)

pub held_once : {X K : Type 0} (f : X → K) (cmp : K → K → Ordering) → IsTotalOrder cmp
    → IsAntisymmetric cmp → (E : X → X → Bool) → ((x y : X) → E x y ≡ eq_by_cmp cmp (f x) (f y))
    → (found sorted once : List X) (all : List K)
    → map f found ≡ all → IsPermutation found sorted → IsSorted (λ x y. cmp (f x) (f y)) sorted
    → IsFiltered (DiffersFromLast E) [] sorted once → HoldsEachOnce cmp all (map f once)
held_once {X} {K} f cmp o exact E ties found sorted once all is moved up dropped =
    let by : IsTotalOrder (λ x y. cmp (f x) (f y)) = on_total f o in
    let same : once ≡ dedup E sorted = dedup_is E sorted once dropped in
    record {
      ascending =
          sorted_under f cmp once (subst (IsStrictlySortedBy (λ x y. cmp (f x) (f y))) (sym same)
          (IsStrictlySortedBy-dedup by ties sorted up));
      in_use = λ k h.
          let r = from_map f once k h.0 h.1 h.2 in
          let a : Contains sorted r.0 =
          Contains-from_dedup E sorted r.0 (subst (λ ys. Contains ys r.0) same r.1) in
          let b : Contains found r.0 =
          Contains-permutation sorted found r.0 (IsPermutation-sym found sorted moved) a in
          subst (λ ks. Contains ks k) is
          (subst (Contains (map f found)) r.2 (in_map f found r.0 b));
      held = λ k h.
          let h' : Contains (map f found) k = subst (λ ks. Contains ks k) (sym is) h in
          let r = from_map f found k h'.0 h'.1 h'.2 in
          let a : Contains sorted r.0 = Contains-permutation found sorted r.0 moved r.1 in
          let e : (x y : X) → E x y ≡ eq_by_cmp (λ x y. cmp (f x) (f y)) x y = ties in
          let kept = kept_one E (λ x y. cmp (f x) (f y)) by e sorted r.0 a in
          let there : Contains once kept.0 = subst (λ ys. Contains ys kept.0) (sym same) kept.1 in
          let equal : f r.0 ≡ f kept.0 =
          exact (f r.0) (f kept.0)
          ((Equal-is (cmp (f r.0) (f kept.0))).0 (sym (ties r.0 kept.0) ∙ kept.2)) in
          subst (Contains (map f once)) (sym equal ∙ r.2) (in_map f once kept.0 there);
    }

-- ---- places

less_is : (r : Ordering) → is_lt r ≡ true → r ≡ Less
less_is Less e = refl
less_is Equal e = absurd cc
less_is Greater e = absurd cc

above_first : {X K : Type 0} (f : X → K) (P : K → Type 0) (xs : List X) (j : ℕ) (d : X)
    → AllByRecursion P (map f xs) → j < length xs → P (f (get_or xs j d))
above_first f P [] j d h lt = absurd (omega (arith, lt))
above_first f P (x ∷ xs) zero d h lt = h.0
above_first f P (x ∷ xs) (suc j) d h lt = above_first f P xs j d h.1 (omega (arith, lt))

parted_at : {X K : Type 0} (f : X → K) (cmp : K → K → Ordering) → IsTotalOrder cmp
    → (t : K) (x : X) (xs : List X) → IsStrictlySortedBy cmp (map f (x ∷ xs)) → (i j : ℕ) (d : X)
    → i ≤ j → j < suc (length xs) → is_lt (cmp (f (get_or (x ∷ xs) j d)) t) ≡ true
    → is_lt (cmp (f (get_or (x ∷ xs) i d)) t) ≡ true
unfolding IsStrictlySortedBy
parted_at f cmp o t x xs h zero zero d le lt e = e
parted_at f cmp o t x xs h zero (suc j) d le lt e =
    let first : cmp (f x) (f (get_or xs j d)) ≡ Less =
    above_first f (λ k. cmp (f x) k ≡ Less) xs j d h.0 (omega (arith, lt)) in
    ap is_lt (o.trans (f x) (f (get_or xs j d)) t first (less_is _ e))
parted_at f cmp o t x xs h (suc i) zero d le lt e = absurd (omega (arith, le))
parted_at f cmp o t x [] h (suc i) (suc j) d le lt e = absurd (omega (arith, lt))
parted_at f cmp o t x (y ∷ xs) h (suc i) (suc j) d le lt e =
    parted_at f cmp o t y xs h.1 i j d (omega (arith, le)) (omega (arith, lt)) e

pub parted : {X K : Type 0} (f : X → K) (cmp : K → K → Ordering) → IsTotalOrder cmp
    → (t : K) (xs : List X) → IsStrictlySortedBy cmp (map f xs)
    → IsPartitionedBy (λ x. is_lt (cmp (f x) t)) xs
unfolding IsStrictlySortedBy
parted f cmp o t [] h = λ i j d le lt e. absurd (omega (arith, lt))
parted f cmp o t (x ∷ xs) h = λ i j d le lt e. parted_at f cmp o t x xs h i j d le lt e

-- the place at which what is below ends
pub place_is : {X K : Type 0} (f : X → K) (cmp : K → K → Ordering) (t : K) (xs : List X) (i : ℕ)
    → i ≤ length xs
    → IsPartitionPoint (λ x. is_lt (cmp (f x) t) ≡ true) (λ x. is_lt (cmp (f x) t) ≡ false) xs i
    → i ≡ place_among cmp (map f xs) t
unfolding place_among
place_is f cmp t [] i le parts = omega (arith, le)
place_is f cmp t (x ∷ xs) zero le parts =
    rw (parts.1 0 x (omega arith) (omega arith)) (place_is f cmp t xs 0 (omega arith) (
      (λ k d low high. absurd (omega (arith, high))),
      (λ k d low high. parts.1 (suc k) d (omega arith) (omega (arith, high))),
    ))
place_is f cmp t (x ∷ xs) (suc i) le parts =
    rw (parts.0 0 x (omega arith) (omega arith))
    (ap suc (place_is f cmp t xs i (omega (arith, le)) (
      (λ k d low high. parts.0 (suc k) d (omega arith) (omega (arith, high))),
      (λ k d low high. parts.1 (suc k) d (omega (arith, low)) (omega (arith, high))),
    )))

-- ---- whether two pairs are the same

both : (o p : Ordering) → (is_eq o && is_eq p) ≡ is_eq (ordering_then o p)
both Less p = refl
both Equal p = refl
both Greater p = refl

pub pair_ties : (x y : Bor (List ℕ) × Bor (List ℕ))
    → (bytes_eq x.0.now y.0.now && bytes_eq x.1.now y.1.now)
    ≡ eq_by_cmp pair_cmp (x.0.now, x.1.now) (y.0.now, y.1.now)
pair_ties x y =
    (λ i. texts_ties x.0.now y.0.now i && texts_ties x.1.now y.1.now i)
    ∙ both (slice_cmp nat_cmp x.0.now y.0.now) (slice_cmp nat_cmp x.1.now y.1.now)

-- ---- the place of one that is held

none_below : {X : Type 0} (cmp : X → X → Ordering) → IsTotalOrder cmp → (ys : List X) (x : X)
    → AllByRecursion (λ y. cmp x y ≡ Less) ys → place_among cmp ys x ≡ 0
unfolding place_among
none_below cmp o [] x h = refl
none_below cmp o (y ∷ ys) x h =
    let above : is_lt (cmp y x) ≡ false = ap is_lt (o.antisymm y x ∙ ap ordering_reverse h.0) in
    rw above (none_below cmp o ys x h.1)

above_at : {X : Type 0} (P : X → Type 0) (ys : List X) (i : ℕ) (d : X) → AllByRecursion P ys
    → i < length ys → P (get_or ys i d)
above_at P [] i d h lt = absurd (omega (arith, lt))
above_at P (y ∷ ys) zero d h lt = h.0
above_at P (y ∷ ys) (suc i) d h lt = above_at P ys i d h.1 (omega (arith, lt))

pub place_found : {X : Type 0} (cmp : X → X → Ordering) → IsTotalOrder cmp
    → (ys : List X) (x : X) (i : ℕ) → IsStrictlySortedBy cmp ys → i < length ys → get_or ys i x ≡ x
    → place_among cmp ys x ≡ i
unfolding place_among IsStrictlySortedBy
place_found cmp o [] x i up lt e = absurd (omega (arith, lt))
place_found cmp o (y ∷ ys) x zero up lt e =
    let same : is_lt (cmp y x) ≡ false = ap (λ z. is_lt (cmp z x)) e ∙ ap is_lt (tied_itself o x) in
    rw same (none_below cmp o ys x (subst (λ z. AllByRecursion (λ y. cmp z y ≡ Less) ys) e up.0))
place_found cmp o (y ∷ ys) x (suc i) up lt e =
    let below : is_lt (cmp y x) ≡ true =
    ap is_lt (subst (λ z. cmp y z ≡ Less) e
    (above_at (λ z. cmp y z ≡ Less) ys i x up.0 (omega (arith, lt)))) in
    rw below (ap suc (place_found cmp o ys x i up.1 (omega (arith, lt)) e))

get_or_same : {X : Type 0} (ys : List X) (i : ℕ) (d e : X) → i < length ys
    → get_or ys i d ≡ get_or ys i e
get_or_same [] i d e lt = absurd (omega (arith, lt))
get_or_same (y ∷ ys) zero d e lt = refl
get_or_same (y ∷ ys) (suc i) d e lt = get_or_same ys i d e (omega (arith, lt))

-- one that is held stands at its place
pub stands_there : {X : Type 0} (cmp : X → X → Ordering) → IsTotalOrder cmp
    → (ys : List X) (x d : X) → IsStrictlySortedBy cmp ys → Contains ys x
    → (place_among cmp ys x < length ys) × (get_or ys (place_among cmp ys x) d ≡ x)
stands_there cmp o ys x d up h =
    let at : place_among cmp ys x ≡ h.0 = place_found cmp o ys x h.0 up h.1 h.2 in
    (omega (arith, at, h.1), ap (λ j. get_or ys j d) at ∙ get_or_same ys h.0 d x h.1 ∙ h.2)

-- and what stands at a place has that place
pub place_back : {X : Type 0} (cmp : X → X → Ordering) → IsTotalOrder cmp
    → (ys : List X) (k : ℕ) (d : X) → IsStrictlySortedBy cmp ys → k < length ys
    → place_among cmp ys (get_or ys k d) ≡ k
place_back cmp o ys k d up lt =
    place_found cmp o ys (get_or ys k d) k up lt (get_or_same ys k (get_or ys k d) d lt)

pub same_default : {X : Type 0} (ys : List X) (i : ℕ) (d e : X) → i < length ys
    → get_or ys i d ≡ get_or ys i e
same_default ys i d e lt = get_or_same ys i d e lt
