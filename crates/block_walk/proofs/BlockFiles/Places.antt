-- Places in ascending references.
use Rattle.std.proofs.Common.{◌≡◌, ℕ, zero, suc, ◌+◌, ◌<◌, ◌≤◌, inl, inr, List, length, get_or, ◌∙◌, arith}
use Rattle.std.specs.Prelude.{slice_get, Some}
use Rattle.std.proofs.lemmas.Option.{get_or_from_slice_get, slice_get-get_or}
use Rattle.std.specs.List.{Contains}
use Rattle.std.specs.List.Sorted.{IsStrictlyIncreasing}
use Rattle.std.proofs.lemmas.Bool.{cases_lt}

pub rises : (xs : List ℕ) (i j : ℕ) → IsStrictlyIncreasing xs → i ≤ j → j < length xs
    → get_or xs i 0 ≤ get_or xs j 0
rises xs i zero up le lt =
    let e : i ≡ 0 = omega arith in
    rw e (omega arith)
rises xs i (suc j) up le lt = elim (cases_lt i (suc j)) [
  | inr from ↦ let e : suc j ≡ i = omega arith in rw e (omega arith)
  | inl below ↦
      let f : j + 1 ≡ suc j = omega arith in
      let step : get_or xs j 0 < get_or xs (suc j) 0 = rw f at (up j (omega arith)) in
      omega (arith, rises xs i j up (omega arith) (omega arith), step)
]

-- what is at most at a place below the target is below it
pub below_middle : (refs : List ℕ) (m target reference : ℕ) → IsStrictlyIncreasing refs
    → m < length refs → slice_get refs m ≡ Some reference → reference < target → (k : ℕ) → k ≤ m
    → get_or refs k 0 < target
below_middle refs m target reference up lt g h k le =
    let e : get_or refs m 0 ≡ reference = get_or_from_slice_get refs m reference 0 g in
    omega (arith, rises refs k m up le lt, e, h)

-- where the first that is not below a reference is another, or there is none, it does not stand
-- there
pub nowhere_at : (refs : List ℕ) (target at : ℕ) → IsStrictlyIncreasing refs
    → ((k : ℕ) → k < at → get_or refs k 0 < target) → (at < length refs → target < get_or refs at 0)
    → Contains refs target → ⊥
nowhere_at refs target at up below above c =
    let e : get_or refs c.0 0 ≡ target =
    get_or_from_slice_get refs c.0 (get_or refs c.0 target) 0 (slice_get-get_or refs c.0 target c.1)
    ∙ c.2 in
    elim (cases_lt c.0 at) [
      | inl less ↦ let lt = below c.0 less in omega (arith, lt, e)
      | inr le ↦
          let lt = above (omega (arith, le, c.1)) in
          let more = rises refs at c.0 up le c.1 in
          omega (arith, lt, more, e)
    ]
