use Rattle.std.proofs.Common.{◌≡◌, ◌+◌, ◌≤◌, drop}
use Rattle.page_claims.specs.Checking.{matches_in}
use Rattle.page_claims.proofs.checks.matches_in.Given as goal

abbrev pub invariant-loop-interval : goal.invariant-loop-interval
invariant-loop-interval l =
    (l.count + matches_in (drop l.interval-index l.intervals) ≡ matches_in l.intervals)
    × (l.count ≤ l.interval-index)
