use Rattle.std.proofs.Common.{◌≡◌, map, take}
use Rattle.block_outputs.specs.Joined.{lists_in}
use Rattle.head.specs.Blocks.{part_in}
use Rattle.labels.specs.Parts.{rows_in}
use Rattle.head.specs.Joins.{parts_in}
use Rattle.block_joiner.proofs.runs.lists_of.Given as goal

-- the rows of the blocks so far
abbrev pub invariant-loop-block : goal.invariant-loop-block
invariant-loop-block l =
    lists_in l.lists.items ≡ map rows_in (parts_in (map part_in (take l.block-index l.blocks)))
