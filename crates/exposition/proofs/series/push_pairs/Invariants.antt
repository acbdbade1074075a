use Rattle.std.proofs.Common.{◌≡◌, ◌++◌, true, take}
use Rattle.labels.specs.Pairs.{pairs_of}
use Rattle.open_metrics.specs.Labels.{pairs_in}
use Rattle.exposition.specs.Faults.{are_utf8}
use Rattle.exposition.proofs.series.push_pairs.Given as goal

abbrev pub invariant-loop-label : goal.invariant-loop-label
invariant-loop-label l =
    (pairs_of l.pairs.items
    ≡ pairs_of l.initial.pairs.items ++ pairs_in (take l.label-index l.labels))
    × (are_utf8 (pairs_in (take l.label-index l.labels)) ≡ true)
