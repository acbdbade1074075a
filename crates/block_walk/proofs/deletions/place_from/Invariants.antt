use Rattle.std.proofs.Common.{ℕ, ◌-◌, ◌<◌, ◌≤◌, length, get_or}
use Rattle.block_walk.specs.IndexFile.Series.{references}
use Rattle.block_walk.proofs.deletions.place_from.Given as goal

abbrev pub invariant-loop-low : goal.invariant-loop-low
invariant-loop-low l = record {
  ordered : l.low ≤ l.high;
  inside : l.high ≤ length l.entries;
  below : (k : ℕ) → k < l.low → get_or (references l.entries) k 0 < l.target;
  above : l.high < length l.entries → l.target ≤ get_or (references l.entries) l.high 0;
}

abbrev pub decreases-loop-low : goal.decreases-loop-low
decreases-loop-low l = l.high - l.low
