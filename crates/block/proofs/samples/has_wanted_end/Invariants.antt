use Rattle.std.proofs.Common.{◌≡◌, drop}
use Rattle.std.specs.List.{list_any}
use Rattle.block.specs.Wanted.{wants_end}
use Rattle.block.proofs.samples.has_wanted_end.Given as goal

abbrev pub invariant-loop-chunk : goal.invariant-loop-chunk
invariant-loop-chunk l =
    list_any (wants_end l.wanted) (drop l.chunk-index l.series)
    ≡ list_any (wants_end l.wanted) l.series
