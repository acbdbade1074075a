use Rattle.std.proofs.Common.{map, take}
use Rattle.head.specs.Blocks.{part_in}
use Rattle.head.specs.Heads.{EndBy}
use Rattle.snapshots.proofs.joined_run.end_by.Given as goal

-- the blocks so far end by the floor
abbrev pub invariant-loop-block : goal.invariant-loop-block
invariant-loop-block l = EndBy l.floor (map part_in (take l.block-index l.blocks))
