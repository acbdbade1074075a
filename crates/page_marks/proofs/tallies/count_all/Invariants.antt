use Rattle.std.proofs.Common.{◌≡◌, ◌+◌, drop}
use Rattle.page_marks.specs.Tallies.{count_all}
use Rattle.page_marks.proofs.tallies.count_all.Given as goal

abbrev pub invariant-loop-answer : goal.invariant-loop-answer
invariant-loop-answer l =
    l.count + count_all l.slot (drop l.answer-index l.answers) ≡ count_all l.slot l.answers
