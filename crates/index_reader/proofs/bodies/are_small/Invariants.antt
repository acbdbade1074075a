use Rattle.std.proofs.Common.{◌≡◌, drop}
use Rattle.std.specs.List.{list_all}
use Rattle.index_reader.specs.Reading.Flat.{label_sets_in}
use Rattle.index_reader.specs.Reading.Whole.{is_small}
use Rattle.index_reader.proofs.bodies.are_small.Given as goal

abbrev pub invariant-loop-at : goal.invariant-loop-at
invariant-loop-at l =
    list_all is_small (drop l.at (label_sets_in l.bodies.labels.items l.bodies.series.items))
    ≡ list_all is_small (label_sets_in l.bodies.labels.items l.bodies.series.items)
