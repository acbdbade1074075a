use Rattle.std.proofs.Common.{◌≡◌, drop}
use Rattle.auditor.specs.Listing.{listed}
use Rattle.auditor.proofs.alone.only_rows.Given as goal

abbrev pub invariant-loop-at : goal.invariant-loop-at
invariant-loop-at l = listed (drop l.at l.answers) ≡ listed l.answers
