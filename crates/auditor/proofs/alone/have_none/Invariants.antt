use Rattle.std.proofs.Common.{◌≡◌, drop}
use Rattle.auditor.specs.Listing.{listed}
use Rattle.auditor.proofs.alone.have_none.Given as goal

abbrev pub invariant-loop-answer : goal.invariant-loop-answer
invariant-loop-answer l = listed (drop l.answer-index l.answers) ≡ listed l.answers
