use Rattle.std.proofs.Common.{◌≡◌, ◌++◌, drop}
use Rattle.page_marks.specs.Tables.{rows_from}
use Rattle.page_marks.proofs.tables.append_shown.Given as goal

abbrev pub invariant-loop-at : goal.invariant-loop-at
invariant-loop-at l =
    l.marks.items ++ rows_from l.at (drop l.at l.rows) ≡ l.fn.marks.items ++ rows_from 0 l.rows
