use Rattle.std.proofs.Common.{◌≡◌, length}
use Rattle.page_claims.specs.Checking.{are_separated}
use Rattle.page_claims.proofs.checks.are_separated.Given as goal

abbrev pub invariant-loop-interval : goal.invariant-loop-interval
invariant-loop-interval l =
    are_separated l.intervals l.separators ≡ are_separated l.rest l.others

abbrev pub decreases-loop-interval : goal.decreases-loop-interval
decreases-loop-interval l = length l.rest
