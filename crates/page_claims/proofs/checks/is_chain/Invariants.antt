use Rattle.std.proofs.Common.{◌≡◌, length}
use Rattle.page_claims.specs.Checking.{is_chain}
use Rattle.page_claims.proofs.checks.is_chain.Given as goal

abbrev pub invariant-loop-first : goal.invariant-loop-first
invariant-loop-first l =
    is_chain l.intervals ≡ is_chain l.rest

abbrev pub decreases-loop-first : goal.decreases-loop-first
decreases-loop-first l = length l.rest
