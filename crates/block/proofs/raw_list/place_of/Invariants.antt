use Rattle.std.proofs.Common.{◌≡◌, ℕ, ◌+◌, ◌-◌, ◌^◌, ◌<◌, ◌≤◌, length, get_or}
use Rattle.std.specs.Prelude.{slice_get}
use Rattle.block.proofs.raw_list.place_of.Given as goal

abbrev pub invariant-loop-low : goal.invariant-loop-low
invariant-loop-low l = record {
  same : l.entries.0 ≡ l.fn.entries.0;
  start : l.fn.from ≤ l.low;
  ordered : l.low ≤ l.high;
  inside : l.high ≤ length l.entries.0;
  risen : l.fn.entries.1 ≤ l.entries.1;
  few : (k : ℕ) → length l.entries.0 - l.fn.from < 2 ^ k
      → (j : ℕ) × (l.entries.1 + j ≤ l.fn.entries.1 + k) × (l.high - l.low < 2 ^ j);
  below : (k : ℕ) → l.fn.from ≤ k → k < l.low → get_or l.entries.0 k 0 < l.target;
  above : l.high < length l.entries.0 → l.target ≤ get_or l.entries.0 l.high 0;
  head : l.head ≡ slice_get l.entries.0 l.high;
}

abbrev pub decreases-loop-low : goal.decreases-loop-low
decreases-loop-low l = l.high - l.low
