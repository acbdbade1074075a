use Rattle.std.proofs.Common.{drop}
use Rattle.server_metrics.proofs.NoneLeft.{buckets_end}
use Rattle.server_metrics.proofs.rows.append_buckets.Goals as goal

pub returns-in_default : goal.returns-in_default
returns-in_default c =
    buckets_end _ _ c.args.front.now c.loop-bound.below
    (drop c.loop-bound.bound-index c.args.bounds.now) c.loop-bound.left.now
    c.in_default.ensures.cases c.loop-bound.invariant
