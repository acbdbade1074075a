use Rattle.join_schedule.proofs.Pairs.{IsLeastSoFar}
use Rattle.join_schedule.proofs.neighbours.least_neighbours.Given as goal

abbrev pub invariant-loop-next : goal.invariant-loop-next
invariant-loop-next l = IsLeastSoFar l.limits l.floor l.blocks l.next l.least
