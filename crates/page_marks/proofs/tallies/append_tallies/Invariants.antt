use Rattle.std.proofs.Common.{◌≡◌, ◌++◌}
use Rattle.page_marks.specs.Gathering.{gather}
use Rattle.page_marks.specs.Tallies.{tally_of}
use Rattle.page_marks.proofs.tallies.append_tallies.Given as goal

abbrev pub invariant-loop-slot : goal.invariant-loop-slot
invariant-loop-slot l = l.marks.items ≡ l.fn.marks.items ++ gather (tally_of l.intervals) l.slot
