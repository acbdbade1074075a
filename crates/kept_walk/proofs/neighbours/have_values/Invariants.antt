use Rattle.std.proofs.Common.{◌≡◌, drop}
use Rattle.std.specs.List.{list_all}
use Rattle.labels.specs.LabelSets.{has_value}
use Rattle.labels.specs.Pairs.{texts_of}
use Rattle.kept_walk.proofs.neighbours.have_values.Given as goal

abbrev pub invariant-loop-value : goal.invariant-loop-value
invariant-loop-value l =
    list_all has_value (texts_of l.pairs)
    ≡ list_all has_value (texts_of (drop l.value-index l.pairs))
