-- The rows of a block in a range, and in a wider one.
use Rattle.std.specs.Prelude.{◌≡◌, ℕ, List, ◌≤ℤ◌}
use Rattle.labels.specs.Rows.{Row}
use Rattle.index_reader.specs.Indexes.{Series}
use Rattle.kept_samples.specs.declared.keeping.Tally.{Tally}
use Rattle.prometheus_block.specs.declared.rows.Wanted.{Wanted}
use Rattle.prometheus_block.specs.Rows.{AreRowsOf, rows_between}
use Rattle.prometheus_block.specs.Series.{Segments}

-- each segment is read alike each time
abbrev pub AreReadAlike : Segments → Type 0
AreReadAlike reads = (number : ℕ) (a b : List ℕ) → reads number a → reads number b → a ≡ b

-- the same is wanted of a block, in a part of a range
pub record IsPartOf (narrow wide : Wanted) : Type 0 where
  pub form : narrow.form ≡ wide.form
  pub deletions : narrow.tombstones.now ≡ wide.tombstones.now
  pub from : wide.times.from ≤ℤ narrow.times.from
  pub to : narrow.times.to ≤ℤ wide.times.to

-- where segments are read alike each time, the rows of a part of a range are those of the whole
-- with their samples in it
abbrev pub PartsHaveTheRowsBetween : Segments → Type 0
PartsHaveTheRowsBetween reads = AreReadAlike reads → (narrow wide : Wanted) → IsPartOf narrow wide
    → (ss : List Series) (all rows : List Row) (a b c d : Tally)
    → AreRowsOf reads wide ss all a b → AreRowsOf reads narrow ss rows c d
    → rows ≡ rows_between narrow.times.from narrow.times.to all
