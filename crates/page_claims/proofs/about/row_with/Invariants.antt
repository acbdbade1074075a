use Rattle.std.proofs.Common.{◌≡◌, ◌<◌, ℕ, Some, slice_get}
use Rattle.labels.specs.Rows.{Row}
use Rattle.page_claims.proofs.about.row_with.Given as goal

abbrev pub invariant-loop-at : goal.invariant-loop-at
invariant-loop-at l =
    (i : ℕ) (row : Row) → i < l.at → slice_get l.rows i ≡ Some row → row.0 ≡ l.labels → ⊥
