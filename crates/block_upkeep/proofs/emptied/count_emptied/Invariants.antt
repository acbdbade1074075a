use Rattle.std.proofs.Common.{◌≡◌, take}
use Rattle.std.specs.Prelude.{All}
use Rattle.join_schedule.specs.declared.blocks.Shape.{Shape}
use Rattle.block_upkeep.proofs.emptied.count_emptied.Given as goal

-- of the blocks so far
abbrev pub invariant-loop-at : goal.invariant-loop-at
invariant-loop-at l = All (λ (b : Shape). b.samples ≡ 0) (take l.at l.blocks)
