-- Rows: the samples of each label set.
use Rattle.std.specs.Prelude.{◌≡◌, ◌≢◌, ℤ, Bool, T, List, [], ◌∷◌, ◌++◌, cond}
use Rattle.std.specs.Ordering.{is_lt}
use Rattle.std.specs.FinMap.Entries.{is_sorted}
use Rattle.labels.specs.Labels.{Labels, labels_cmp, same_labels}
use Rattle.labels.specs.Contents.{Content}

-- a label set with samples
abbrev pub Row : Type 0
Row = Labels × List (ℤ × ℤ)

-- the samples of one row as samples of a content
abbrev pub points_in : Labels → List (ℤ × ℤ) → Content
points_in l [] = []
points_in l (s ∷ ss) = ((l, s.0), s.1) ∷ points_in l ss

-- the samples of all rows, one row after another
abbrev pub points_of : List Row → Content
points_of [] = []
points_of (r ∷ rs) = points_in r.0 r.1 ++ points_of rs

-- one more sample before rows
abbrev pub add_front : Labels → ℤ × ℤ → List Row → List Row
add_front l s [] = (l, s ∷ []) ∷ []
add_front l s (r ∷ rs) = cond (same_labels l r.0) ((l, s ∷ r.1) ∷ rs) ((l, s ∷ []) ∷ r ∷ rs)

-- the rows of a content
abbrev pub rows_of : Content → List Row
rows_of [] = []
rows_of (e ∷ es) = add_front e.0.0 (e.0.1, e.1) (rows_of es)

-- a row with a sample
abbrev pub IsFull : Row → Type 0
IsFull r = r.1 ≢ []

-- each row has a sample
abbrev pub AreFull : List Row → Type 0
AreFull [] = Unit {0}
AreFull (r ∷ rs) = IsFull r × AreFull rs

-- the rows of a content: in label order, none of them empty, and exactly its samples, in order
pub record AreRows (rows : List Row) (content : Content) : Type 0 where
  pub points : points_of rows ≡ content
  pub ascending : T (is_sorted labels_cmp rows)
  pub full : AreFull rows

-- whether a row stands before another in label order
abbrev pub row_before : Row → Row → Bool
row_before x y = is_lt (labels_cmp x.0 y.0)
