use Rattle.std.proofs.Common.{◌≡◌, ◌++◌}
use Rattle.page_marks.specs.Columns.{column_marks}
use Rattle.page_marks.specs.Gathering.{gather}
use Rattle.page_marks.proofs.columns.append_columns.Given as goal

abbrev pub invariant-loop-at : goal.invariant-loop-at
invariant-loop-at l =
    l.marks.items
    ≡ l.fn.marks.items ++ gather (column_marks l.columns l.foot l.height l.intervals) l.at
