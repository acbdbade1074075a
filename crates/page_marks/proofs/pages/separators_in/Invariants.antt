use Rattle.std.proofs.Common.{◌≡◌, ◌+◌, drop}
use Rattle.page_marks.specs.Pages.{separators_in}
use Rattle.page_marks.proofs.pages.separators_in.Given as goal

abbrev pub invariant-loop-answer : goal.invariant-loop-answer
invariant-loop-answer l =
    l.count + separators_in (drop l.answer-index l.answers) ≡ separators_in l.answers
