-- Rows where no count is left.
use Rattle.std.proofs.Common.{◌≡◌, ℕ, List, [], ◌∷◌, ◌++◌, length, refl, sym, ap, ◌∙◌, arith}
use Rattle.std.proofs.Common.{append-nil}
use Rattle.server_metrics.specs.Rows.{rows_text, buckets_text}

no_rows : (front labels : List ℕ) → rows_text front labels [] ≡ []
no_rows front [] = refl
no_rows front (label ∷ labels) = refl

no_buckets : (front : List ℕ) (below : ℕ) (bounds : List ℕ)
    → buckets_text front below bounds [] ≡ []
no_buckets front below [] = refl
no_buckets front below (bound ∷ bounds) = refl

pub rows_end : (out all front labels left : List ℕ) → length left ≡ 0
    → out ++ rows_text front labels left ≡ all → out ≡ all
rows_end out all front labels [] none h =
    sym (append-nil out) ∙ ap (λ (rows : List ℕ). out ++ rows) (sym (no_rows front labels)) ∙ h
rows_end out all front labels (n ∷ left) none h = absurd (omega arith)

pub buckets_end : (out all front : List ℕ) (below : ℕ) (bounds left : List ℕ) → length left ≡ 0
    → out ++ buckets_text front below bounds left ≡ all → out ≡ all
buckets_end out all front below bounds [] none h =
    sym (append-nil out) ∙ ap (λ (rows : List ℕ). out ++ rows) (sym (no_buckets front below bounds))
    ∙ h
buckets_end out all front below bounds (n ∷ left) none h = absurd (omega arith)
