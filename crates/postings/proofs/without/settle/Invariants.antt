use Rattle.std.proofs.Common.{◌≡◌, length}
use Rattle.labels.specs.Sets.{difference}
use Rattle.postings.proofs.without.settle.Given as goal

abbrev pub invariant-loop-next : goal.invariant-loop-next
invariant-loop-next g l = difference (g.A.Postings.remaining l.list) (g.B.Postings.remaining l.out) ≡ difference (g.A.Postings.remaining l.initial.list) (g.B.Postings.remaining l.initial.out)

abbrev pub decreases-loop-next : goal.decreases-loop-next
decreases-loop-next g l = length (g.A.Postings.remaining l.list)
