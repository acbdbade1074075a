-- The tables of a page: what they show and what they leave out.
use Rattle.std.specs.Prelude.{ℕ, ◌+◌, min, nat_lt, List, [], ◌∷◌, ◌++◌, length, take, drop}
use Rattle.std.specs.Prelude.{if◌then◌else◌}
use Rattle.cover.specs.declared.certificate.Interval.{Interval}
use Rattle.labels.specs.Rows.{Row}
use Rattle.page_text.specs.declared.mark.Mark.{Mark}
use Rattle.page_text.specs.declared.mark.Mark.TheVariants.{Count}
use Rattle.page_text.specs.declared.mark.Subject.TheVariants.{Intervals, Rows, Samples, Place}
use Rattle.page_marks.specs.Gathering.{gather}
use Rattle.page_marks.specs.Tallies.{tallies}

-- the row of a table at a place, from 0
unfoldable pub place_mark : ℕ → List Mark
place_mark at = Count Place (1 + at) ∷ []

-- what a table of intervals leaves out: how many, and how many of each verdict
unfoldable pub left_intervals : List Interval → List Mark
left_intervals is =
    if nat_lt 0 (length is) then Count Intervals (length is) ∷ tallies is else []

-- a table that shows the first intervals, at most so many
unfoldable pub table_marks : ℕ → List Interval → List Mark
table_marks most is =
    gather place_mark (min most (length is)) ++ left_intervals (drop (min most (length is)) is)

-- how many samples rows have
abbrev pub samples_in : List Row → ℕ
samples_in [] = 0
samples_in (r ∷ rs) = length r.1 + samples_in rs

-- rows of a table from a place on, each with how many samples it has
abbrev pub rows_from : ℕ → List Row → List Mark
rows_from at [] = []
rows_from at (r ∷ rs) = Count Place (1 + at) ∷ Count Samples (length r.1) ∷ rows_from (at + 1) rs

-- what a table of rows leaves out: how many, and how many samples they have
unfoldable pub left_rows : List Row → List Mark
left_rows rows =
    if nat_lt 0 (length rows)
    then Count Rows (length rows) ∷ Count Samples (samples_in rows) ∷ []
    else []

-- a table that shows the first 50 rows
unfoldable pub row_marks : List Row → List Mark
row_marks rows =
    rows_from 0 (take (min 50 (length rows)) rows) ++ left_rows (drop (min 50 (length rows)) rows)
