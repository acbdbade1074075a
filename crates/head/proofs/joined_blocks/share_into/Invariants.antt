use Rattle.std.proofs.Common.{◌≡◌, ◌++◌, map, take}
use Rattle.head.specs.Blocks.{part_in}
use Rattle.head.proofs.joined_blocks.share_into.Given as goal

-- the blocks so far
abbrev pub invariant-loop-block : goal.invariant-loop-block
invariant-loop-block l =
    map part_in l.all.items
    ≡ map part_in l.initial.all.items ++ map part_in (take l.block-index l.blocks)
