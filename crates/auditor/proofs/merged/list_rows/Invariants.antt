use Rattle.std.proofs.Common.{◌≡◌, ◌++◌, drop}
use Rattle.labels.specs.Rows.{points_of}
use Rattle.auditor.proofs.merged.list_rows.Given as goal

abbrev pub invariant-loop-row : goal.invariant-loop-row
invariant-loop-row l =
    l.all.items ++ points_of (drop l.row-index l.rows) ≡ l.initial.all.items ++ points_of l.rows
