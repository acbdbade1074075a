use Rattle.std.proofs.Common.{◌≡◌, ◌-◌, length}
use Rattle.labels.specs.Parts.{live_references}
use Rattle.head.specs.HeadRows.{rows_from}
use Rattle.head.proofs.live.next_live.Given as goal

abbrev pub invariant-loop-place : goal.invariant-loop-place
invariant-loop-place l = live_references l.from l.to (rows_from l.place l.series) ≡ live_references l.from l.to (rows_from l.start l.series)

abbrev pub decreases-loop-place : goal.decreases-loop-place
decreases-loop-place l = length l.series - l.place
