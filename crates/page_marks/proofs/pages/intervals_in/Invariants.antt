use Rattle.std.proofs.Common.{◌≡◌, ◌+◌, drop}
use Rattle.page_marks.specs.Pages.{intervals_in}
use Rattle.page_marks.proofs.pages.intervals_in.Given as goal

abbrev pub invariant-loop-answer : goal.invariant-loop-answer
invariant-loop-answer l =
    l.count + intervals_in (drop l.answer-index l.answers) ≡ intervals_in l.answers
