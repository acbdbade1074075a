use Rattle.std.proofs.Common.{◌≡◌, ◌++◌, drop}
use Rattle.std.specs.List.{flat_map}
use Rattle.state_claims.specs.Claiming.{otherwise_in}
use Rattle.state_claims.proofs.claim.otherwise_of.Given as goal

abbrev pub invariant-loop-line : goal.invariant-loop-line
invariant-loop-line l =
    l.names.items ++ flat_map otherwise_in (drop l.line-index l.lines)
    ≡ flat_map otherwise_in l.lines
