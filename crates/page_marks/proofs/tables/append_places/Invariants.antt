use Rattle.std.proofs.Common.{◌≡◌, ◌++◌}
use Rattle.page_marks.specs.Gathering.{gather}
use Rattle.page_marks.specs.Tables.{place_mark}
use Rattle.page_marks.proofs.tables.append_places.Given as goal

abbrev pub invariant-loop-at : goal.invariant-loop-at
invariant-loop-at l = l.marks.items ≡ l.fn.marks.items ++ gather place_mark l.at
