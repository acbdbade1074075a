use Rattle.std.proofs.Common.{◌≡◌, ◌++◌, drop}
use Rattle.std.specs.List.{flat_map}
use Rattle.page_marks.specs.Pages.{part_sums}
use Rattle.page_marks.proofs.pages.append_all_sums.Given as goal

abbrev pub invariant-loop-answer : goal.invariant-loop-answer
invariant-loop-answer l =
    l.marks.items ++ flat_map part_sums (drop l.answer-index l.answers)
    ≡ l.fn.marks.items ++ flat_map part_sums l.answers
