use Rattle.std.proofs.Common.{◌≡◌, ◌++◌, drop}
use Rattle.std.specs.List.{flat_map}
use Rattle.page_claims.specs.Judging.{unjudged_answer}
use Rattle.page_claims.proofs.judged.unjudged_answers.Given as goal

abbrev pub invariant-loop-answer : goal.invariant-loop-answer
invariant-loop-answer l =
    l.names.items ++ flat_map (unjudged_answer l.lines) (drop l.answer-index l.answers)
    ≡ flat_map (unjudged_answer l.lines) l.answers
