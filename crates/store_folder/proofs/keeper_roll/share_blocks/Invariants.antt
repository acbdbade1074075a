use Rattle.std.proofs.Common.{◌≡◌, map, take}
use Rattle.head.specs.Blocks.{part_in}
use Rattle.store_folder.proofs.keeper_roll.share_blocks.Given as goal

-- the blocks so far
abbrev pub invariant-loop-block : goal.invariant-loop-block
invariant-loop-block l = map part_in l.shares.items ≡ map part_in (take l.block-index l.blocks)
