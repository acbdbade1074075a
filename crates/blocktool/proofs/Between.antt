-- The rows in a range of times, of one row more.
use Rattle.std.specs.Prelude.{◌≡◌, ℕ, ◌+◌, ◌<◌, ℤ, List, [], ◌∷◌, ◌++◌, length, take, get_or, refl}
use Rattle.std.proofs.Common.{sym, ap, ◌∙◌, append_assoc}
use Rattle.std.proofs.lemmas.Grind.{take_at_read}
use Rattle.std.proofs.lemmas.List.{append-nil}
use Rattle.labels.specs.Rows.{Row}
use Rattle.labels.specs.Parts.{within}
use Rattle.prometheus_block.specs.Rows.{row_if, rows_between}

between_last : (from to : ℤ) (rows : List Row) (row : Row)
    → rows_between from to (rows ++ row ∷ []) ≡ rows_between from to rows ++ row_if row.0
    (within from to row.1)
between_last from to [] row = append-nil (row_if row.0 (within from to row.1))
between_last from to (r ∷ rows) row =
    ap (λ (rs : List Row). row_if r.0 (within from to r.1) ++ rs) (between_last from to rows row)
    ∙ sym (append_assoc (row_if r.0 (within from to r.1)) (rows_between from to rows) (row_if row.0
    (within from to row.1)))

pub between_more : (from to : ℤ) (all : List Row) (n : ℕ) (row : Row) (found new : List Row)
    → n < length all → row ≡ get_or all n row → found ≡ rows_between from to (take n all)
    → new ≡ found ++ row_if row.0 (within from to row.1)
    → new ≡ rows_between from to (take (n + 1) all)
between_more from to all n row found new lt at e f =
    f ∙ ap (λ (rs : List Row). rs ++ row_if row.0 (within from to row.1)) e
    ∙ sym (between_last from to (take n all) row)
    ∙ ap (rows_between from to)
    (sym ((take_at_read all n row lt).1 ∙ ap (λ (x : Row). take n all ++ x ∷ []) (sym at)))
