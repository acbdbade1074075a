use Rattle.std.proofs.Common.{sym, ap, ◌∙◌, rules}
use Rattle.std.proofs.lemmas.Int.{to_z-of_z}
use Rattle.std.specs.Int.RustNames.{FitsSigned}
use Rattle.std.specs.Int.{w64}
use Rattle.wire.specs.Reading.{varint_at}
use Rattle.wire.proofs.KnownReads.{same_value, not_refused}
use Rattle.wire.proofs.Signed.{varint_again}
use Rattle.wire.proofs.cut.Cut.varint.Goals as goal

pub returns-clause-only : goal.returns-clause-only
returns-clause-only c z rest lt e =
    let fits : FitsSigned w64 c.in_ok-z.z = search rules in
    rw (to_z-of_z w64 c.in_ok-z.z fits) (same_value c.in_ok-z.z z c.in_ok-z.after.now rest
    (sym c.in_ok-z.ensures.exact ∙ ap varint_at (rw c.self.view_is e) ∙ varint_again z rest lt))

pub returns-in_err-z-clause-only : goal.returns-in_err-z-clause-only
returns-in_err-z-clause-only c z rest lt e =
    absurd (not_refused _ _ (z, rest) c.in_err-z.ensures.exact (ap varint_at (rw c.self.view_is e)
    ∙ varint_again z rest lt))
