-- Rows with one sample more.
use Rattle.std.specs.Prelude.{ℤ, List, [], ◌∷◌}
use Rattle.std.specs.Ordering.{int_cmp}
use Rattle.std.specs.FinMap.Entries.{put, by_order}
use Rattle.labels.specs.Labels.{Labels, labels_cmp}
use Rattle.labels.specs.Rows.{Row}

-- the rows in which a label set has this value at this time
abbrev pub row_put : Labels → ℤ × ℤ → List Row → List Row
row_put l s [] = (l, s ∷ []) ∷ []
row_put l s (r ∷ rs) =
    by_order (labels_cmp l r.0)
    ((l, s ∷ []) ∷ r ∷ rs)
    ((r.0, put int_cmp s.0 s.1 r.1) ∷ rs)
    (r ∷ row_put l s rs)
