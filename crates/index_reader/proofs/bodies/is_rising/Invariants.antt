use Rattle.std.proofs.Common.{◌≡◌, ◌<◌, ◌-◌, drop, length}
use Rattle.index_reader.specs.Layout.{rises}
use Rattle.index_reader.specs.Reading.Flat.{labels_before, label_sets_in}
use Rattle.index_reader.proofs.bodies.is_rising.Given as goal

abbrev pub invariant-loop-at : goal.invariant-loop-at
invariant-loop-at l =
    (0 < l.at)
    × (rises labels_before
    (drop (l.at - 1) (label_sets_in l.bodies.labels.items l.bodies.series.items))
    ≡ rises labels_before (label_sets_in l.bodies.labels.items l.bodies.series.items))

abbrev pub decreases-loop-at : goal.decreases-loop-at
decreases-loop-at l = length l.bodies.series.items - l.at
