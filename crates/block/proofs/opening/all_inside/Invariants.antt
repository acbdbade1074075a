use Rattle.std.proofs.Common.{◌≡◌, drop}
use Rattle.std.specs.List.{list_all}
use Rattle.block.specs.Sound.{lies_in}
use Rattle.block.proofs.opening.all_inside.Given as goal

abbrev pub invariant-loop-chunk : goal.invariant-loop-chunk
invariant-loop-chunk l =
    list_all (lies_in l.range) (drop l.chunk-index l.list) ≡ list_all (lies_in l.range) l.list
