-- Files of a block that spell exactly some rows.
use Rattle.std.specs.Prelude.{◌≡◌, ℕ, ◌≤◌, ℤ, true, List, length}
use Rattle.std.specs.List.{AllByRecursion}
use Rattle.labels.specs.Parts.{Part, rows_in}
use Rattle.labels.specs.Rows.{Row}
use Rattle.block.specs.Ranges.{IsRange, covers}
use Rattle.block.specs.Grammar.{IsBlock}

-- a row that a block of a range may have: no more than 1,048,576 samples, and the times of all lie
-- in the range
pub record IsWithin (range : ℤ × ℤ) (row : Row) : Type 0 where
  pub few : length row.1 ≤ 1048576
  pub inside : AllByRecursion (λ (s : ℤ × ℤ). covers range s.0 ≡ true) row.1

-- rows that a block of a range may have: no more than 1,048,576 of them, and it may have each
pub record AreWithin (range : ℤ × ℤ) (rows : List Row) : Type 0 where
  pub few : length rows ≤ 1048576
  pub each : AllByRecursion (IsWithin range) rows

-- the files are those of a block of a range with exactly these rows
pub record SpellRows (range : ℤ × ℤ) (index chunks tombstones : List ℕ)
    (rows : List Row) : Type 0 where
  pub part : Part
  pub spelled : IsBlock range index chunks tombstones part
  pub exactly : rows_in part ≡ rows

-- in whichever range the rows lie, the files are those of a block of this range with exactly the
-- rows
abbrev pub SpellRowsAnywhere : (index chunks tombstones : List ℕ) (rows : List Row) → Type 0
SpellRowsAnywhere index chunks tombstones rows =
    (range : ℤ × ℤ) → IsRange range → AreWithin range rows
    → SpellRows range index chunks tombstones rows
