-- Rows with one sample more at their end.
use Rattle.std.specs.Prelude.{ℤ, List, [], ◌∷◌, ◌++◌, if◌then◌else◌}
use Rattle.labels.specs.Labels.{Labels, same_labels}
use Rattle.labels.specs.Rows.{Row}

-- a sample joins the last row, where that has its label set, or makes a row
abbrev pub pushed : Labels → ℤ × ℤ → List Row → List Row
pushed l s [] = (l, s ∷ []) ∷ []
pushed l s (r ∷ []) = if same_labels r.0 l then (l, r.1 ++ s ∷ []) ∷ [] else r ∷ (l, s ∷ []) ∷ []
pushed l s (r ∷ m ∷ rs) = r ∷ pushed l s (m ∷ rs)
