-- Pieces of a list, and a search of what is left of an ascending one.
use Rattle.std.proofs.Common.{◌≡◌, ℕ, ◌+◌, ◌-◌, ◌<◌, ◌≤◌, true, List, length, take, drop, get_or, sym, ap, ◌∙◌, arith}
use Rattle.std.specs.Ordering.{is_lt, nat_cmp}
use Rattle.std.proofs.lemmas.Bool.Decides.{nat_tests}
use Rattle.std.proofs.lemmas.List.{length-drop, drop-take, drop-drop}
use Rattle.std.specs.List.Sorted.{IsStrictlyIncreasing}
use Rattle.block.proofs.Places.{rises}

-- where a search from a place on stands: what lies before its start is below the target, and what stands at its end is not
pub record IsSearched (xs : List ℕ) (from t start end : ℕ) : Type 0 where
  pub ahead : from ≤ start
  pub order : start ≤ end
  pub within : end ≤ length xs
  pub below : (k : ℕ) → from ≤ k → k < start → get_or xs k 0 < t
  pub above : end < length xs → t ≤ get_or xs end 0

below_is : (a b : ℕ) → is_lt (nat_cmp a b) ≡ true → a < b
below_is a b h = grind (arith, nat_tests)

-- what is at a place below the target, is below it up to there
pub passed : (xs : List ℕ) (from t start end middle at : ℕ) → IsStrictlyIncreasing xs → IsSearched xs from t start end → start ≤ middle → middle < end → at ≡ get_or xs middle 0 → is_lt (nat_cmp at t) ≡ true → IsSearched xs from t (middle + 1) end
passed xs from t start end middle at up h le lt e less = let low : at < t = below_is at t less in record {
  ahead = omega (arith, h.ahead, le);
  order = omega (arith, lt);
  within = h.within;
  below = λ k a b. omega (arith, rises xs k middle up (omega (arith, b)) (omega (arith, lt, h.within)), low, e);
  above = h.above;
}

-- a piece without its first items
pub piece_after : (piece xs : List ℕ) (place ahead : ℕ) → ahead ≤ length piece → piece ≡ take (length piece) (drop place xs) → drop ahead piece ≡ take (length (drop ahead piece)) (drop (place + ahead) xs)
piece_after piece xs place ahead h e =
    let m = length piece - ahead in
    let n : length piece ≡ ahead + m = omega (arith, h) in
    let k : length (drop ahead piece) ≡ m = length-drop ahead piece in
    ap (λ (l : List ℕ). drop ahead l) (e ∙ ap (λ (j : ℕ). take j (drop place xs)) n)
    ∙ drop-take ahead m (drop place xs)
    ∙ ap (λ (l : List ℕ). take m l) (drop-drop ahead place xs)
    ∙ ap (λ (j : ℕ). take j (drop (place + ahead) xs)) (sym k)
