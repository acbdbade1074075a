use Rattle.std.proofs.Common.{◌-◌}
use Rattle.head.proofs.Pieces.{IsSearched}
use Rattle.head.proofs.reference_list.ReferenceList.place_of.Given as goal

abbrev pub invariant-loop-start : goal.invariant-loop-start
invariant-loop-start l = IsSearched l.self.references.now l.self.place l.target l.start l.end

abbrev pub decreases-loop-start : goal.decreases-loop-start
decreases-loop-start l = l.end - l.start
