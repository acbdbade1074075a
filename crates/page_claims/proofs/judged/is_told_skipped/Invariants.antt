use Rattle.std.proofs.Common.{◌≡◌, drop}
use Rattle.page_claims.specs.Judging.{is_told_skipped}
use Rattle.page_claims.proofs.judged.is_told_skipped.Given as goal

abbrev pub invariant-loop-line : goal.invariant-loop-line
invariant-loop-line l = is_told_skipped l.lines l.name ≡ is_told_skipped (drop l.line-index l.lines) l.name
