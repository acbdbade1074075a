use Rattle.cover.specs.Walking.{TellsFarthest, begins_at}
use Rattle.cover.proofs.walk.farthest.Given as goal

abbrev pub invariant-loop-number : goal.invariant-loop-number
invariant-loop-number g l =
    TellsFarthest (begins_at g.P.Postings.remaining l.lists) l.number 0 l.fn.from l.verdict l.end
