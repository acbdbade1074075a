use Rattle.std.proofs.Common.{◌≡◌, ◌++◌}
use Rattle.page_marks.specs.Gathering.{gather}
use Rattle.page_marks.specs.Tallies.{group_tally}
use Rattle.page_marks.proofs.tallies.append_group.Given as goal

abbrev pub invariant-loop-slot : goal.invariant-loop-slot
invariant-loop-slot l =
    l.marks.items ≡ l.fn.marks.items ++ gather (group_tally l.all l.group) l.slot
