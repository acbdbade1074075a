use Rattle.std.proofs.Common.{◌≡◌, ◌++◌, drop, map}
use Rattle.cover.specs.declared.part_cover.PartAnswer.{PartAnswer}
use Rattle.page_claims.proofs.judged.searched_names.Given as goal

abbrev pub invariant-loop-answer : goal.invariant-loop-answer
invariant-loop-answer l =
    l.names.items ++ map (λ (a : PartAnswer). a.part) (drop l.answer-index l.answers)
    ≡ map (λ (a : PartAnswer). a.part) l.answers
