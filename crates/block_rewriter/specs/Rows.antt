-- The rows of a block that is written anew.
use Rattle.std.specs.Prelude.{Bool, ◌&&◌, List, length, nat_le}
use Rattle.std.specs.List.{filter, list_all}
use Rattle.labels.specs.Rows.{Row}
use Rattle.block_writer.specs.PartRows.{has_some}

-- the rows that have a sample
abbrev pub full_rows : List Row → List Row
full_rows rows = filter (λ (row : Row). has_some row.1) rows

-- whether a row has no more samples than a block may have of one series
abbrev pub is_few : Row → Bool
is_few row = nat_le (length row.1) 1048576

-- whether there are no more rows than a block may have, and each has no more samples
abbrev pub are_few : List Row → Bool
are_few rows = nat_le (length rows) 1048576 && list_all is_few rows
