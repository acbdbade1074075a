use Rattle.std.proofs.Common.{◌≡◌, ◌++◌, drop}
use Rattle.labels.specs.Rows.{points_in}
use Rattle.auditor.proofs.merged.list_row.Given as goal

abbrev pub invariant-loop-sample : goal.invariant-loop-sample
invariant-loop-sample l =
    l.all.items ++ points_in l.row.0 (drop l.sample-index l.samples)
    ≡ l.initial.all.items ++ points_in l.row.0 l.samples
