-- Rows that a part may have.
use Rattle.std.specs.Prelude.{ℤ, Bool, true, false, ◌&&◌, List, [], ◌∷◌, Option, Some, None}
use Rattle.std.specs.Prelude.{if◌then◌else◌}
use Rattle.std.specs.List.{list_all}
use Rattle.std.specs.Ordering.{int_cmp}
use Rattle.std.specs.FinMap.Entries.{is_sorted}
use Rattle.labels.specs.Labels.{labels_cmp}
use Rattle.labels.specs.Rows.{Row}

-- whether there is a sample
abbrev pub has_some : List (ℤ × ℤ) → Bool
has_some [] = false
has_some (s ∷ ss) = true

-- samples, strictly in the order of their times
abbrev pub is_series : Row → Bool
is_series row = has_some row.1 && is_sorted int_cmp row.1

-- strictly in the order of their label sets, each with samples strictly in the order of their times
abbrev pub are_part_rows : List Row → Bool
are_part_rows rows = is_sorted labels_cmp rows && list_all is_series rows

-- the rows, if a part may have them
abbrev pub part_rows : List Row → Option (List Row)
part_rows rows = if are_part_rows rows then Some rows else None
