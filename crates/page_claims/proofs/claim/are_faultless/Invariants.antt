use Rattle.std.proofs.Common.{◌≡◌, drop}
use Rattle.page_claims.specs.Claiming.{are_faultless}
use Rattle.page_claims.proofs.claim.are_faultless.Given as goal

abbrev pub invariant-loop-line : goal.invariant-loop-line
invariant-loop-line l =
    are_faultless l.lines ≡ are_faultless (drop l.line-index l.lines)
