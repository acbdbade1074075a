use Rattle.std.proofs.Common.{◌≡◌, map, take}
use Rattle.head.specs.Blocks.{part_in}
use Rattle.head.specs.Removing.{blocks_kept, survives}
use Rattle.head.proofs.deletion.blocks_without.Given as goal

abbrev pub invariant-loop-block : goal.invariant-loop-block
invariant-loop-block l = map part_in l.left.items ≡ blocks_kept (survives l.matchers l.from l.to) (map part_in (take l.block-index l.blocks))
