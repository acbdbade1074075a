use Rattle.labels.specs.Pairs.{texts_of}
use Rattle.kept_walk.specs.Fields.{is_before}
use Rattle.kept_walk.proofs.NextTo.{IsLooking}
use Rattle.kept_walk.proofs.neighbours.are_by_name.Given as goal

abbrev pub invariant-loop-i : goal.invariant-loop-i
invariant-loop-i l = IsLooking is_before (texts_of l.pairs) l.i
