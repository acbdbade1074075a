-- No spelling of a number begins another.
use Rattle.std.proofs.Common.{ℕ, ◌^◌, ◌<◌, sym, ap, ◌∙◌}
use Rattle.wire.specs.Reading.{uvarint_at}
use Rattle.wire.specs.Spelling.{uvarint, BeginsNoOther}
use Rattle.wire.proofs.Laws.{uvarint_again}
use Rattle.wire.proofs.KnownReads.{same_read}

pub uvarint_alone : (n : ℕ) → n < 2 ^ 64 → BeginsNoOther (λ (m : ℕ). m < 2 ^ 64) uvarint n
uvarint_alone n n_lt m x y m_lt e =
    same_read n m x y (sym (uvarint_again n x n_lt) ∙ ap uvarint_at e ∙ uvarint_again m y m_lt)
