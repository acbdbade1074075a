use Rattle.head.specs.Looking.{IsCandidates}
use Rattle.head.proofs.looking.candidates.Given as goal

abbrev pub invariant-loop-place : goal.invariant-loop-place
invariant-loop-place g l = IsCandidates l.labels (g.S.Source.part l.source) l.found.items
