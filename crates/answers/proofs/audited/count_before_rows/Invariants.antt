use Rattle.std.proofs.Common.{◌≡◌, drop}
use Rattle.answers.specs.MergedRows.{first_rows}
use Rattle.answers.proofs.audited.count_before_rows.Given as goal

abbrev pub invariant-loop-at : goal.invariant-loop-at
invariant-loop-at l = first_rows l.parts ≡ first_rows (drop l.at l.parts)
