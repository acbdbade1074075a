-- A part without some of its samples.
use Rattle.std.specs.Prelude.{ℕ, ℤ, Bool, not, ◌&&◌, ◌==◌, List, map}
use Rattle.std.specs.List.{filter, list_any}
use Rattle.labels.specs.Contents.{in_range}
use Rattle.labels.specs.Parts.{Part}
use Rattle.labels.specs.Rows.{Row}

-- whether a reference is one of these
abbrev pub is_among : List ℕ → ℕ → Bool
is_among references r = list_any (λ (x : ℕ). x == r) references

-- the samples of a row, less those in the closed range where the row is one of these series
abbrev pub row_without : List ℕ → ℤ → ℤ → ℕ × Row → ℕ × Row
row_without references from to row = (
  row.0,
  (
    row.1.0,
    filter (λ (s : ℤ × ℤ). not (is_among references row.0 && in_range from to s.0)) row.1.1,
  ),
)

-- the part less the samples of these series in the closed range
abbrev pub part_without : List ℕ → ℤ → ℤ → Part → Part
part_without references from to part = map (row_without references from to) part
