use Rattle.std.proofs.Common.{◌≡◌, ◌+◌, ◌≤◌, drop}
use Rattle.page_claims.specs.Counting.{count_in}
use Rattle.page_claims.proofs.counts.count_in.Given as goal

abbrev pub invariant-loop-interval : goal.invariant-loop-interval
invariant-loop-interval l =
    (l.count + count_in l.slot (drop l.interval-index l.intervals) ≡ count_in l.slot l.intervals)
    × (l.count ≤ l.interval-index)
