use Rattle.std.proofs.Common.{◌≡◌, drop}
use Rattle.state_claims.specs.Claiming.{is_found_right}
use Rattle.state_claims.proofs.claim.is_found_right.Given as goal

abbrev pub invariant-loop-line : goal.invariant-loop-line
invariant-loop-line l =
    is_found_right l.lines l.name ≡ is_found_right (drop l.line-index l.lines) l.name
