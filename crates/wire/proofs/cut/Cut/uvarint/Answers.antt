use Rattle.std.proofs.Common.{sym, ap, ◌∙◌}
use Rattle.wire.specs.Reading.{uvarint_at}
use Rattle.wire.proofs.Laws.{uvarint_again}
use Rattle.wire.proofs.KnownReads.{same_value, not_refused}
use Rattle.wire.proofs.cut.Cut.uvarint.Goals as goal

pub returns-clause-only : goal.returns-clause-only
returns-clause-only c n rest lt e =
    same_value c.in_ok-n.n n c.in_ok-n.after.now rest
    (sym c.in_ok-n.ensures.exact ∙ ap uvarint_at (rw c.self.view_is e) ∙ uvarint_again n rest lt)

pub returns-in_err-n-clause-only : goal.returns-in_err-n-clause-only
returns-in_err-n-clause-only c n rest lt e =
    absurd (not_refused _ _ (n, rest) c.in_err-n.ensures.exact (ap uvarint_at (rw c.self.view_is e)
    ∙ uvarint_again n rest lt))
