use Rattle.std.proofs.Common.{◌≡◌, drop}
use Rattle.page_claims.specs.Claiming.{is_head_empty}
use Rattle.page_claims.proofs.claim.is_head_empty.Given as goal

abbrev pub invariant-loop-answer : goal.invariant-loop-answer
invariant-loop-answer l = is_head_empty l.answers ≡ is_head_empty (drop l.answer-index l.answers)
