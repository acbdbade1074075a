use Rattle.kept_walk.proofs.Counts.{IsCounting}
use Rattle.kept_walk.proofs.events.are_few.Given as goal

abbrev pub invariant-loop-row : goal.invariant-loop-row
invariant-loop-row l = IsCounting l.runs l.row-index l.left
