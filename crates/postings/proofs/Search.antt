-- What is below a target in an ascending list is found in a beginning of the list.
use Rattle.std.proofs.Common.{◌≡◌, ℕ, zero, suc, ◌+◌, ◌<◌, ◌≤◌, Bool, true, false, ltb, ltb-true, ltb-false, ◌⊎◌, inl, inr, List, [], ◌∷◌, length, take, get_or, refl, sym, subst, arith}
use Rattle.std.proofs.lemmas.Grind.{common_steps}
use Rattle.std.proofs.lemmas.List.{get_or-take, get_or_default}
use Rattle.std.specs.Prelude.{IsTrue, ◌↔◌}
use Rattle.std.specs.List.{IsAllAdjacentAnswer}
use Rattle.std.specs.List.Sorted.{IsStrictlyIncreasing, IsNonDecreasingBy, IsPartitionPoint}
use Rattle.std.proofs.lemmas.List.Sorted.{IsNonDecreasingBy-from_default}
use Rattle.labels.proofs.Lists.{rising-tail, rising-head}

rises : (xs : List ℕ) → IsStrictlyIncreasing xs → (i j : ℕ) → i ≤ j → j < length xs → get_or xs i 0 ≤ get_or xs j 0
rises [] h i j le l = absurd (omega (arith, l))
rises (x ∷ xs) h zero zero le l = omega arith
rises (x ∷ xs) h zero (suc j) le l =
    let within : j < length xs = omega (arith, l) in
    let above : x < get_or xs j 0 = rising-head x xs h (get_or xs j 0) (j, within, get_or_default xs j (get_or xs j 0) 0 within) in
    omega arith
rises (x ∷ xs) h (suc i) zero le l = absurd (omega (arith, le))
rises (x ∷ xs) h (suc i) (suc j) le l = rises xs (rising-tail x xs h) i j (omega (arith, le)) (omega (arith, l))

pub rises_by : (xs : List ℕ) → IsStrictlyIncreasing xs → IsNonDecreasingBy (λ (x : ℕ). x) xs
rises_by xs h = IsNonDecreasingBy-from_default (λ (x : ℕ). x) xs 0 (rises xs h)

length_take : (n : ℕ) (xs : List ℕ) → n ≤ length xs → length (take n xs) ≡ n
length_take n xs within = grind (arith, common_steps)

below_or_at : (k n : ℕ) → k ≤ n → (k < n) ⊎ (k ≡ n)
below_or_at k n h = grind arith

-- what a search of the first n references found, said of the whole list
pub below_point : (xs : List ℕ) (n i t : ℕ) → n ≤ length xs → i ≤ length (take n xs) → IsPartitionPoint (λ x. ltb x t ≡ true) (λ x. ltb x t ≡ false) (take n xs) i
    → (k : ℕ) → k < i → get_or xs k 0 < t
below_point xs n i t within bound point k l =
    let long : length (take n xs) ≡ n = length_take n xs within in
    let before : k < n = omega (arith, l, bound, long) in
    subst (λ (x : ℕ). x < t) (get_or-take n xs k 0 before) (ltb-true (get_or (take n xs) k 0) t (point.0 k 0 (omega arith) l))

pub above_point : (xs : List ℕ) (n i t : ℕ) → n ≤ length xs → i ≤ length (take n xs) → IsPartitionPoint (λ x. ltb x t ≡ true) (λ x. ltb x t ≡ false) (take n xs) i
    → (n < length xs → t ≤ get_or xs n 0) → i < length xs → t ≤ get_or xs i 0
above_point xs n i t within bound point past l =
    let long : length (take n xs) ≡ n = length_take n xs within in
    elim (below_or_at i n (omega (arith, bound, long))) [
      | inl before ↦
          let fails : ltb (get_or (take n xs) i 0) t ≡ false = point.1 i 0 (omega arith) (omega (arith, before, long)) in
          subst (λ (x : ℕ). t ≤ x) (get_or-take n xs i 0 before) (ltb-false (get_or (take n xs) i 0) t fails)
      | inr e ↦ subst (λ (m : ℕ). t ≤ get_or xs m 0) (sym e) (past (omega (arith, e, l)))
    ]

-- what comparing each reference with the next tells
pub ascending_from_pairs : (xs : List ℕ) (r : Bool) → IsAllAdjacentAnswer (λ x y b. b ≡ ltb x y) xs r → IsTrue r ↔ IsStrictlyIncreasing xs
ascending_from_pairs xs true each = ((λ e k l. ltb-true (get_or xs k 0) (get_or xs (k + 1) 0) (sym (each k 0 l))), (λ h. refl))
ascending_from_pairs xs false other = (
  (λ e. absurd cc),
  (λ h. absurd (
      let falls : get_or xs (other.0 + 1) 0 ≤ get_or xs other.0 0 = ltb-false (get_or xs other.0 0) (get_or xs (other.0 + 1) 0) (sym (other.2 0)) in
      let rises' : get_or xs other.0 0 < get_or xs (other.0 + 1) 0 = h other.0 other.1 in
      omega arith)),
)
