use Rattle.std.proofs.Common.{◌≡◌, ◌++◌}
use Rattle.page_marks.specs.Columns.{group_marks}
use Rattle.page_marks.specs.Gathering.{gather}
use Rattle.page_marks.proofs.columns.append_all_groups.Given as goal

abbrev pub invariant-loop-at : goal.invariant-loop-at
invariant-loop-at l = l.marks.items ≡ l.fn.marks.items ++ gather (group_marks l.intervals) l.at
