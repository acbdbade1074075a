use Rattle.std.proofs.Common.{◌≡◌, ◌++◌, length}
use Rattle.head.proofs.selection.collect_references.Given as goal

abbrev pub invariant-loop-reference : goal.invariant-loop-reference
invariant-loop-reference g l = l.found.items ++ g.P.Postings.remaining l.list ≡ g.P.Postings.remaining l.initial.list

abbrev pub decreases-loop-reference : goal.decreases-loop-reference
decreases-loop-reference g l = length (g.P.Postings.remaining l.list)
