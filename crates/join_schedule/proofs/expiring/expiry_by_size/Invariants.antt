use Rattle.std.specs.Prelude.{◌≤ℤ◌}
use Rattle.join_schedule.proofs.Ends.{IsBestSoFar, IsEnough}
use Rattle.join_schedule.proofs.expiring.expiry_by_size.Given as goal

abbrev pub invariant-loop-block : goal.invariant-loop-block
invariant-loop-block l =
    IsBestSoFar (λ s t. t ≤ℤ s) (IsEnough l.most l.blocks) l.blocks l.block-index l.least
