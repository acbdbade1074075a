-- Samples in runs.
use Rattle.std.specs.Prelude.{◌≡◌, ℕ, ◌+◌, ℤ, T, List, [], ◌∷◌, ◌++◌, length, reverse}
use Rattle.std.specs.List.{All}
use Rattle.std.specs.Ordering.{int_cmp}
use Rattle.std.specs.FinMap.Entries.{put, is_sorted}
use Rattle.labels.specs.Labels.{Labels, point_cmp}
use Rattle.labels.specs.Contents.{Content}
use Rattle.labels.specs.Rows.{Row, points_of}
use Rattle.labels.specs.Parts.{laid_over}

-- the times of each run ascend
abbrev pub AreRising : List Row → Type 0
AreRising runs = All (λ (r : Row). T (is_sorted int_cmp r.1)) runs

-- a sample of the label set of a run, after all of the run's
abbrev pub GoesOn : Row → Labels → ℤ × ℤ → Type 0
GoesOn run l s = (run.0 ≡ l) × T (is_sorted int_cmp (run.1 ++ s ∷ []))

-- what rows hold; of several samples at one point the first
abbrev pub content_of : List Row → Content
content_of rows = laid_over (points_of rows) []

-- how many samples rows have
abbrev pub count_of : List Row → ℕ
count_of rows = length (points_of rows)

-- a sample was put over those of runs, of which the last counts first
pub record IsPut (l : Labels) (s : ℤ × ℤ) (old new : List Row) : Type 0 where
  pub content : content_of (reverse new) ≡ put point_cmp (l, s.0) s.1 (content_of (reverse old))
  pub count : count_of (reverse new) ≡ count_of (reverse old) + 1
