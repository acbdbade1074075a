use Rattle.std.proofs.Common.{drop}
use Rattle.server_metrics.proofs.NoneLeft.{rows_end}
use Rattle.server_metrics.proofs.rows.append_counts.Goals as goal

pub returns-in_default : goal.returns-in_default
returns-in_default c =
    rows_end _ _ c.args.front.now (drop c.loop-label.label-index c.args.labels.now)
    c.loop-label.left.now c.in_default.ensures.cases c.loop-label.invariant
