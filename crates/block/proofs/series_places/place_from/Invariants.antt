use Rattle.std.proofs.Common.{ℕ, ◌-◌, ◌<◌, ◌≤◌, length, get_or}
use Rattle.index_reader.specs.Indexes.{references}
use Rattle.block.proofs.series_places.place_from.Given as goal

abbrev pub invariant-loop-low : goal.invariant-loop-low
invariant-loop-low l = record {
  start : l.fn.from ≤ l.low;
  ordered : l.low ≤ l.high;
  inside : l.high ≤ length l.index.series;
  below : (k : ℕ) → l.fn.from ≤ k → k < l.low → get_or (references l.index.series) k 0 < l.target;
  above : l.high < length l.index.series → l.target ≤ get_or (references l.index.series) l.high 0;
}

abbrev pub decreases-loop-low : goal.decreases-loop-low
decreases-loop-low l = l.high - l.low
