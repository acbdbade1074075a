-- What remains, by its place.
use Rattle.std.proofs.Common.{◌≡◌, ℕ, zero, suc, ◌+◌, ◌-◌, ◌*◌, ◌^◌, ◌/◌, ◌<◌, ◌≤◌, inl, inr, List}
use Rattle.std.proofs.Common.{[], ◌∷◌, length, get_or, drop, refl, sym, ap, ◌∙◌, arith}
use Rattle.std.specs.Prelude.{slice_get, nat_le, Some, None}
use Rattle.std.proofs.lemmas.Option.{get_or_from_slice_get, slice_get-get_or}
use Rattle.std.proofs.lemmas.List.{length-drop, drop-drop, get_or-drop}
use Rattle.std.specs.List.{Contains}
use Rattle.std.specs.List.Sorted.{IsStrictlyIncreasing}
use Rattle.std.proofs.lemmas.Bool.{cases_lt}
use Rattle.std.proofs.Math.Nat.{pow-suc}
use Rattle.std.proofs.lemmas.Bool.Decides.{nat_tests}
use Rattle.labels.specs.Ascending.{first_of, rest_of, not_below, first_or_end}
use Rattle.labels.proofs.Lists.{first-drop, rest-drop, drop-not_below, rising-drop, rising-head}
use Rattle.labels.proofs.Lists.{filter-all, Contains-cases}

pub first_at : (xs : List ℕ) (i : ℕ) → first_of (drop i xs) ≡ slice_get xs i
first_at xs zero = first-drop xs
first_at [] (suc i) = refl
first_at (x ∷ xs) (suc i) = first_at xs i

pub rest_at : (xs : List ℕ) (i : ℕ) → rest_of (drop i xs) ≡ drop (i + 1) xs
rest_at xs i = rest-drop (drop i xs) ∙ drop-drop 1 i xs

-- from a place on, what is not below the target begins at another
pub not_below_at : (xs : List ℕ) (from at target : ℕ) → IsStrictlyIncreasing xs
    → from ≤ at → at ≤ length xs
    → ((k : ℕ) → from ≤ k → k < at → get_or xs k 0 < target)
    → (at < length xs → target ≤ get_or xs at 0) → drop at xs ≡ not_below target (drop from xs)
not_below_at xs from at target up le fits below above =
    let n = at - from in
    let e : from + n ≡ at = omega arith in
    let same : drop n (drop from xs) ≡ drop at xs =
    drop-drop n from xs ∙ ap (λ (k : ℕ). drop k xs) e in
    sym same
    ∙ drop-not_below (drop from xs) target n (rising-drop xs from up)
    (omega (arith, length-drop from xs))
    (λ k l. rw (get_or-drop from xs k 0) (below (from + k) (omega arith) (omega arith)))
    (λ l. rw (get_or-drop from xs n 0) (rw e (above (omega (arith, length-drop from xs)))))

pub rises : (xs : List ℕ) (i j : ℕ) → IsStrictlyIncreasing xs → i ≤ j → j < length xs
    → get_or xs i 0 ≤ get_or xs j 0
rises xs i zero up le lt =
    let e : i ≡ 0 = omega arith in
    rw e (omega arith)
rises xs i (suc j) up le lt = elim (cases_lt i (suc j)) [
  | inr from ↦ let e : suc j ≡ i = omega arith in rw e (omega arith)
  | inl below ↦
      let f : j + 1 ≡ suc j = omega arith in
      let step : get_or xs j 0 < get_or xs (suc j) 0 = rw f at (up j (omega arith)) in
      omega (arith, rises xs i j up (omega arith) (omega arith), step)
]

-- what is at most at a place below the target is below it
pub below_middle : (refs : List ℕ) (m target reference : ℕ) → IsStrictlyIncreasing refs
    → m < length refs → slice_get refs m ≡ Some reference → reference < target → (k : ℕ) → k ≤ m
    → get_or refs k 0 < target
below_middle refs m target reference up lt g h k le =
    let e : get_or refs m 0 ≡ reference = get_or_from_slice_get refs m reference 0 g in
    omega (arith, rises refs k m up le lt, e, h)

-- where the first that is not below a reference is another, or there is none, it does not stand
-- there
pub nowhere_at : (refs : List ℕ) (target at : ℕ) → IsStrictlyIncreasing refs
    → ((k : ℕ) → k < at → get_or refs k 0 < target) → (at < length refs → target < get_or refs at 0)
    → Contains refs target → ⊥
nowhere_at refs target at up below above c =
    let e : get_or refs c.0 0 ≡ target =
    get_or_from_slice_get refs c.0 (get_or refs c.0 target) 0 (slice_get-get_or refs c.0 target c.1)
    ∙ c.2 in
    elim (cases_lt c.0 at) [
      | inl less ↦ let lt = below c.0 less in omega (arith, lt, e)
      | inr le ↦
          let lt = above (omega (arith, le, c.1)) in
          let more = rises refs at c.0 up le c.1 in
          omega (arith, lt, more, e)
    ]

-- one more read, of half as many
pub halved : (reads reads' s s' k : ℕ) → ((j : ℕ) × (reads + j ≤ k) × (s < 2 ^ j)) → 0 < s
    → s' ≤ s / 2 → reads' ≤ reads + 1 → (j : ℕ) × (reads' + j ≤ k) × (s' < 2 ^ j)
halved reads reads' s s' k (zero, le, lt) some half once =
    absurd (let h : s < 1 = lt in omega arith)
halved reads reads' s s' k (suc i, le, lt) some half once =
    let e : 2 ^ suc i ≡ 2 ^ i * 2 = pow-suc 2 i in
    (i, omega (arith, le), omega (arith, lt, e))

-- a target that is not above the first of what remains leaves all of it
pub stays_at : (xs : List ℕ) (target : ℕ) → IsStrictlyIncreasing xs → target ≤ first_or_end xs
    → xs ≡ not_below target xs
stays_at [] target up le = refl
stays_at (x ∷ xs) target up le =
    sym (filter-all (λ r. nat_le target r) (x ∷ xs) (λ r d. elim (Contains-cases x xs r d) [
      | inl e ↦ grind (arith, nat_tests)
      | inr m ↦ let lt : x < r = rising-head x xs up r m in grind (arith, nat_tests)
    ]))

-- what stands first, as it is kept
pub read_first : (xs : List ℕ) (head : ℕ) → first_of xs ≡ Some head → first_or_end xs ≡ head
read_first [] head e = cc
read_first (x ∷ xs) head e = cc

pub none_stays : (xs : List ℕ) (target : ℕ) → first_of xs ≡ None → xs ≡ not_below target xs
none_stays [] target e = refl
none_stays (x ∷ xs) target e = cc
