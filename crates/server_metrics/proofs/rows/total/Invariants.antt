use Rattle.std.proofs.Common.{◌≡◌, drop}
use Rattle.std.specs.List.{fold}
use Rattle.server_metrics.specs.Rows.{capped, total}
use Rattle.server_metrics.proofs.rows.total.Given as goal

abbrev pub invariant-loop-n : goal.invariant-loop-n
invariant-loop-n l = fold capped l.sum (drop l.n-index l.counts) ≡ total l.counts
