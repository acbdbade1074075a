use Rattle.std.proofs.Common.{◌≡◌, ◌<◌, ◌-◌, drop, length}
use Rattle.block_walk.specs.IndexFile.Each.{rises}
use Rattle.block_walk.specs.IndexFile.Flat.{is_before, label_sets_in}
use Rattle.block_walk.proofs.bodies.is_rising.Given as goal

abbrev pub invariant-loop-at : goal.invariant-loop-at
invariant-loop-at l =
    (0 < l.at) × (rises is_before (drop (l.at - 1) (label_sets_in l.labels l.rows))
    ≡ rises is_before (label_sets_in l.labels l.rows))

abbrev pub decreases-loop-at : goal.decreases-loop-at
decreases-loop-at l = length l.rows - l.at
