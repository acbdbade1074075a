use Rattle.std.proofs.Common.{◌≡◌, length}
use Rattle.page_claims.specs.Checking.{are_named}
use Rattle.page_claims.proofs.checks.are_named.Given as goal

abbrev pub invariant-loop-first : goal.invariant-loop-first
invariant-loop-first l =
    are_named l.matchers l.intervals ≡ are_named l.matchers l.rest

abbrev pub decreases-loop-first : goal.decreases-loop-first
decreases-loop-first l = length l.rest
