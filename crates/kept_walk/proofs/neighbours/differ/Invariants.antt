use Rattle.kept_walk.specs.Fields.{differs}
use Rattle.kept_walk.proofs.NextTo.{IsLooking}
use Rattle.kept_walk.proofs.neighbours.differ.Given as goal

abbrev pub invariant-loop-i : goal.invariant-loop-i
invariant-loop-i l = IsLooking differs l.runs l.i
