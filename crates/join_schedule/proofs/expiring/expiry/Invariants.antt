use Rattle.std.specs.Prelude.{◌≤ℤ◌}
use Rattle.join_schedule.specs.Expiry.{IsExpired}
use Rattle.join_schedule.proofs.Ends.{IsBestSoFar}
use Rattle.join_schedule.proofs.expiring.expiry.Given as goal

abbrev pub invariant-loop-block : goal.invariant-loop-block
invariant-loop-block l =
    IsBestSoFar (λ s t. s ≤ℤ t) (IsExpired l.floor l.now l.keep) l.blocks l.block-index l.last
