use Rattle.std.proofs.Common.{◌≡◌, take}
use Rattle.head.proofs.references.pages_with.Given as goal

abbrev pub invariant-loop-reference : goal.invariant-loop-reference
invariant-loop-reference l = l.pages ≡ take l.reference-index l.references
