use Rattle.std.proofs.Common.{◌≡◌, ◌++◌, drop}
use Rattle.std.specs.List.{flat_map}
use Rattle.state_claims.specs.Claiming.{unjudged_name}
use Rattle.state_claims.proofs.claim.unjudged_in.Given as goal

abbrev pub invariant-loop-name : goal.invariant-loop-name
invariant-loop-name l =
    l.unjudged.items ++ flat_map (unjudged_name l.lines) (drop l.name-index l.names)
    ≡ flat_map (unjudged_name l.lines) l.names
