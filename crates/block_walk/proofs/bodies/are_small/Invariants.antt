use Rattle.std.proofs.Common.{◌≡◌, drop}
use Rattle.std.specs.List.{list_all}
use Rattle.block_walk.specs.IndexFile.Flat.{label_sets_in}
use Rattle.block_walk.specs.IndexFile.Whole.{is_small}
use Rattle.block_walk.proofs.bodies.are_small.Given as goal

abbrev pub invariant-loop-at : goal.invariant-loop-at
invariant-loop-at l =
    list_all is_small (drop l.at (label_sets_in l.labels l.rows))
    ≡ list_all is_small (label_sets_in l.labels l.rows)
