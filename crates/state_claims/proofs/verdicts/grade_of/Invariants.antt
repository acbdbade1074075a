use Rattle.std.proofs.Common.{◌≡◌, drop}
use Rattle.state_claims.specs.Claiming.{grade_of}
use Rattle.state_claims.proofs.verdicts.grade_of.Given as goal

abbrev pub invariant-loop-line : goal.invariant-loop-line
invariant-loop-line l =
    grade_of l.lines l.name ≡ grade_of (drop l.line-index l.lines) l.name
