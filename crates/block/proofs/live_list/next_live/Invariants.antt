use Rattle.std.proofs.Common.{◌≡◌, ◌-◌, ◌≤◌, length, drop}
use Rattle.labels.specs.Parts.{live_references}
use Rattle.block.proofs.live_list.next_live.Given as goal

abbrev pub invariant-loop-place : goal.invariant-loop-place
invariant-loop-place l = record {
  within : l.place ≤ length l.block.part;
  moved : live_references l.times.from l.times.to (drop l.place l.block.part)
      ≡ live_references l.times.from l.times.to (drop l.start l.block.part);
}

abbrev pub decreases-loop-place : goal.decreases-loop-place
decreases-loop-place l = length l.block.part - l.place
