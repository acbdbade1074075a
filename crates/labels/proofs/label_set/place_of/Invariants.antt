use Rattle.std.proofs.Common.{◌≡◌, ◌<◌, ◌≤◌, ◌-◌, ℕ, [], length, get_or}
use Rattle.std.specs.Ordering.{nat_cmp, ordering_index}
use Rattle.std.specs.Cmp.Lexicographic.{slice_cmp}
use Rattle.labels.proofs.label_set.place_of.Given as goal

abbrev pub invariant-loop-low : goal.invariant-loop-low
invariant-loop-low l = record {
  ordered : l.low ≤ l.high;
  inside : l.high ≤ length l.pairs;
  below : (k : ℕ) → k < l.low → ordering_index (slice_cmp nat_cmp (get_or l.pairs k ([], [])).0 l.name) ≡ 0;
  above : (k : ℕ) → l.high ≤ k → k < length l.pairs → ordering_index (slice_cmp nat_cmp (get_or l.pairs k ([], [])).0 l.name) ≡ 2;
}

abbrev pub decreases-loop-low : goal.decreases-loop-low
decreases-loop-low l = l.high - l.low
