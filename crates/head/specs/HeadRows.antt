-- The rows of a head, from a place on and in a range of times.
use Rattle.std.specs.Prelude.{ℕ, ℤ, ◌+◌, Bool, List, [], ◌∷◌, drop, slice_index_or}
use Rattle.labels.specs.Labels.{Labels}
use Rattle.labels.specs.Rows.{Row}
use Rattle.labels.specs.Parts.{Part, within, has_sample}
use Rattle.head.specs.Heads.{HeadSeries, numbered}

-- the series with this number, as a row
abbrev pub numbered_row : ℕ → HeadSeries → ℕ × Row
numbered_row n h = (n, (h.labels, h.samples))

-- whether the series at a place has a sample in the closed range
abbrev pub has_sample_at : ℤ → ℤ → List HeadSeries → ℕ → HeadSeries → Bool
has_sample_at from to head place d = has_sample from to (slice_index_or head place d).samples

-- the rows of a head from a place on, from 0
abbrev pub rows_from : ℕ → List HeadSeries → Part
rows_from place head = numbered (place + 1) (drop place head)

-- rows with one before them, if it has a sample
abbrev pub with_row : Labels → List (ℤ × ℤ) → List Row → List Row
with_row l [] rows = rows
with_row l (s ∷ ss) rows = (l, s ∷ ss) ∷ rows

-- the series that have a sample in the closed range, each with its samples there
abbrev pub rows_within : ℤ → ℤ → List HeadSeries → List Row
rows_within from to [] = []
rows_within from to (h ∷ hs) = with_row h.labels (within from to h.samples) (rows_within from to hs)
