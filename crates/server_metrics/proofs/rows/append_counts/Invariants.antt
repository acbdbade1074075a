use Rattle.std.proofs.Common.{◌≡◌, ◌++◌, drop}
use Rattle.server_metrics.specs.Rows.{rows_text}
use Rattle.server_metrics.proofs.rows.append_counts.Given as goal

abbrev pub invariant-loop-label : goal.invariant-loop-label
invariant-loop-label l =
    l.out.items ++ rows_text l.front (drop l.label-index l.labels) l.left
    ≡ l.fn.out.items ++ rows_text l.front l.labels l.counts
