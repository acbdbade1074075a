use Rattle.std.proofs.Common.{◌≡◌, drop}
use Rattle.whole_audit.specs.StateLines.{are_right_lines}
use Rattle.state_claims.proofs.claim.are_right_lines.Given as goal

abbrev pub invariant-loop-line : goal.invariant-loop-line
invariant-loop-line l = are_right_lines l.lines ≡ are_right_lines (drop l.line-index l.lines)
