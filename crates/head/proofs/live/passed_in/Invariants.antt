use Rattle.std.proofs.Common.{◌≡◌, ◌<◌, ◌≤◌, ◌-◌, ℕ, false, length, map, get_or}
use Rattle.std.specs.Arc.{arc_value}
use Rattle.labels.specs.Parts.{has_sample}
use Rattle.head.specs.Heads.{HeadSeries}
use Rattle.head.proofs.live.passed_in.Given as goal

-- none of the series so far has a sample in the range
abbrev pub invariant-loop-passed : goal.invariant-loop-passed
invariant-loop-passed l = record {
  inside : l.passed ≤ length l.leaf;
  none : (k : ℕ) (d : HeadSeries) → k < l.passed → has_sample l.from l.to (get_or (map (λ s. arc_value s) l.leaf) k d).samples ≡ false;
}

abbrev pub decreases-loop-passed : goal.decreases-loop-passed
decreases-loop-passed l = length l.leaf - l.passed
