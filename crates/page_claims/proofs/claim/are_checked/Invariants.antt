use Rattle.std.proofs.Common.{◌≡◌, drop}
use Rattle.page_claims.specs.Claiming.{are_checked}
use Rattle.page_claims.proofs.claim.are_checked.Given as goal

abbrev pub invariant-loop-answer : goal.invariant-loop-answer
invariant-loop-answer l =
    are_checked l.matchers l.answers
    ≡ are_checked l.matchers (drop l.answer-index l.answers)
