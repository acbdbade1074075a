use Rattle.std.proofs.Common.{◌≡◌, ◌++◌, drop}
use Rattle.server_metrics.specs.Rows.{buckets_text}
use Rattle.server_metrics.proofs.rows.append_buckets.Given as goal

abbrev pub invariant-loop-bound : goal.invariant-loop-bound
invariant-loop-bound l =
    l.out.items ++ buckets_text l.front l.below (drop l.bound-index l.bounds) l.left
    ≡ l.fn.out.items ++ buckets_text l.front 0 l.bounds l.counts
