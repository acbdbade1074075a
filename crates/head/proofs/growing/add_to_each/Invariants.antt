use Rattle.std.specs.Prelude.{Ok, ◌+◌, List, ℕ, slice_set}
use Rattle.labels.specs.Labels.{Labels}
use Rattle.std.proofs.Common.{length, ◌-◌, ◌≡◌, drop, ◌≤◌}
use Rattle.head.specs.BatchRows.{pairs_with}
use Rattle.head.specs.Heads.{HeadSeries}
use Rattle.head.specs.OwnSteps.{StandsIn}
use Rattle.head.specs.Taking.{head_added_each}
use Rattle.head.proofs.growing.add_to_each.Given as goal

-- the steps from here on are those of all, whatever the head
abbrev pub invariant-loop-i : goal.invariant-loop-i
invariant-loop-i l = record {
  within : l.i ≤ length l.samples;
  labels : l.series.labels ≡ l.fn.series.labels;
  same : (ls : Labels) (head : List HeadSeries) (k : ℕ) → StandsIn ls head k l.fn.series → head_added_each l.floor (Ok (slice_set head k l.series)) (l.at + l.i) (drop l.i (pairs_with ls l.samples)) ≡ head_added_each l.floor (Ok head) l.at (pairs_with ls l.samples);
}

abbrev pub decreases-loop-i : goal.decreases-loop-i
decreases-loop-i l = length l.samples - l.i
