-- The columns of a strip, and the groups of its table.
use Rattle.std.specs.Prelude.{ℕ, ◌+◌, ◌-◌, Bool, nat_lt, nat_le, List, [], ◌++◌}
use Rattle.std.specs.Prelude.{length, slice_range, if◌then◌else◌}
use Rattle.cover.specs.declared.certificate.Interval.{Interval}
use Rattle.page_layout.specs.Columns.{edge}
use Rattle.page_text.specs.declared.mark.Mark.{Mark}
use Rattle.page_marks.specs.Gathering.{gather}
use Rattle.page_marks.specs.Tallies.{tallies, group_tally}
use Rattle.page_marks.specs.Tiles.{tiles}

-- how many columns a strip of so many intervals has, of few parts or of many
abbrev pub columns_of : ℕ → Bool → ℕ
columns_of count few = if nat_le count 240 then count else if few then 240 else 60

-- the intervals of a column
abbrev pub column_of : ℕ → List Interval → ℕ → List Interval
column_of columns is at =
    slice_range is (edge columns (length is) at) (edge columns (length is) (at + 1))

-- how many of a column's intervals have each verdict, if it has several
unfoldable pub hover : List Interval → List Mark
hover is = if nat_lt 1 (length is) then tallies is else []

-- a column: its tallies, and its tiles between its edges
unfoldable pub column_marks : ℕ → ℕ → ℕ → List Interval → ℕ → List Mark
column_marks columns foot height is at =
    hover (column_of columns is at)
    ++ tiles (edge columns 10000 at) (edge columns 10000 (at + 1) - edge columns 10000 at) foot
    height (column_of columns is at)

-- the columns of a strip: a box for each interval, or high columns of several; boxes of few parts
-- stand below a map
abbrev pub strip_marks : ℕ → Bool → List Interval → List Mark
strip_marks columns few is =
    if nat_lt columns (length is) then gather (column_marks columns 114 96 is) columns
    else if few then gather (column_marks columns 106 44 is) columns
    else gather (column_marks columns 62 44 is) columns

-- how many intervals of a group have each verdict that occurs in all
unfoldable pub group_marks : List Interval → ℕ → List Mark
group_marks is at = gather (group_tally is (column_of 20 is at)) 19

-- the groups of more than 240 intervals
unfoldable pub groups_marks : List Interval → List Mark
groups_marks is = if nat_lt 240 (length is) then gather (group_marks is) 20 else []
