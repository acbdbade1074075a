use Rattle.std.proofs.Common.{◌<◌, take}
use Rattle.std.specs.Prelude.{All}
use Rattle.join_schedule.specs.declared.blocks.Shape.{Shape}
use Rattle.block_upkeep.proofs.emptied.emptied_stretch.Given as goal

-- each of the blocks so far has a sample
abbrev pub invariant-loop-at : goal.invariant-loop-at
invariant-loop-at l = All (λ (b : Shape). 0 < b.samples) (take l.at l.blocks)
