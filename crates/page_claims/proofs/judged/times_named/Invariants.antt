use Rattle.std.proofs.Common.{◌≡◌, ◌+◌, ◌≤◌, drop}
use Rattle.page_claims.specs.Judging.{times_named}
use Rattle.page_claims.proofs.judged.times_named.Given as goal

abbrev pub invariant-loop-other : goal.invariant-loop-other
invariant-loop-other l =
    (l.count + times_named l.name (drop l.other-index l.names) ≡ times_named l.name l.names)
    × (l.count ≤ l.other-index)
