use Rattle.std.proofs.Common.{◌≡◌, drop}
use Rattle.labels.specs.LabelSets.{are_named}
use Rattle.labels.specs.Pairs.{texts_of}
use Rattle.kept_walk.proofs.neighbours.are_named.Given as goal

abbrev pub invariant-loop-name : goal.invariant-loop-name
invariant-loop-name l =
    are_named (texts_of l.pairs) ≡ are_named (texts_of (drop l.name-index l.pairs))
