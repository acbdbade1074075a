use Rattle.std.proofs.Common.{◌≡◌, drop}
use Rattle.page_claims.specs.Judging.{is_found_valid}
use Rattle.page_claims.proofs.judged.is_found_valid.Given as goal

abbrev pub invariant-loop-line : goal.invariant-loop-line
invariant-loop-line l = is_found_valid l.lines l.name ≡ is_found_valid (drop l.line-index l.lines) l.name
