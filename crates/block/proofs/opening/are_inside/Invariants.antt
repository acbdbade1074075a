use Rattle.std.proofs.Common.{◌≡◌, drop}
use Rattle.std.specs.List.{list_all}
use Rattle.index_reader.specs.Indexes.{chunk_lists}
use Rattle.block.specs.Sound.{lies_in}
use Rattle.block.proofs.opening.are_inside.Given as goal

abbrev pub invariant-loop-at : goal.invariant-loop-at
invariant-loop-at l =
    list_all (list_all (lies_in l.range)) (drop l.at (chunk_lists l.index.series))
    ≡ list_all (list_all (lies_in l.range)) (chunk_lists l.index.series)
