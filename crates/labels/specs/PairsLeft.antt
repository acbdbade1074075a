-- The pairs of a label set that are still to be given.
use Rattle.std.specs.Prelude.{drop}
use Rattle.labels.specs.Labels.{Labels}
use Rattle.labels.specs.declared.pairs.LabelPairs.{LabelPairs}

-- the pairs that are left
abbrev pub pairs_left : LabelPairs → Labels
pairs_left p = drop p.at p.pairs.now
