use Rattle.std.proofs.Common.{◌≡◌, ◌++◌}
use Rattle.page_marks.specs.Gathering.{gather}
use Rattle.page_marks.specs.Pages.{key_mark}
use Rattle.page_marks.proofs.pages.append_key.Given as goal

abbrev pub invariant-loop-slot : goal.invariant-loop-slot
invariant-loop-slot l =
    l.marks.items ≡ l.fn.marks.items ++ gather (key_mark l.matchers l.answers) l.slot
