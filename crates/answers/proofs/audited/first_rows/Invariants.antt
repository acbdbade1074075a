use Rattle.std.proofs.Common.{◌≡◌, length}
use Rattle.answers.specs.MergedRows.{first_rows}
use Rattle.answers.proofs.audited.first_rows.Given as goal

abbrev pub invariant-loop-first : goal.invariant-loop-first
invariant-loop-first l = first_rows l.parts ≡ first_rows l.rest

abbrev pub decreases-loop-first : goal.decreases-loop-first
decreases-loop-first l = length l.rest
