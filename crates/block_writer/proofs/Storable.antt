-- Rows that a block of a range may have, and the series under which they stand.
use Rattle.std.specs.Prelude.{◌≡◌, ℕ, ◌+◌, ◌≤◌, ℤ, T, true, List, [], ◌∷◌, length}
use Rattle.std.specs.List.{list_all, AllByRecursion}
use Rattle.std.specs.Int.{w64}
use Rattle.std.specs.Int.RustNames.{FitsSigned}
use Rattle.labels.specs.Contents.{in_range}
use Rattle.labels.specs.Parts.{Part}
use Rattle.labels.specs.Rows.{Row}
use Rattle.labels.specs.declared.sample.TheConstants.{MIN_TIME, MAX_TIME}
use Rattle.index_reader.specs.Indexes.{Series}
use Rattle.block.specs.Ranges.{covers}
use Rattle.block_writer.specs.EntryBodies.{chunks_of}
use Rattle.block_writer.specs.Writing.{series_text}

-- a series for each row: its label set, and its chunks, which stand one after another from a place
-- on
abbrev pub AreSeriesOf : ℕ → List Series → List Row → Type 0
AreSeriesOf at [] [] = Unit {0}
AreSeriesOf at [] (row ∷ rows) = ⊥
AreSeriesOf at (s ∷ ss) [] = ⊥
AreSeriesOf at (s ∷ ss) (row ∷ rows) =
    (s.labels ≡ row.0) × (s.chunks ≡ chunks_of at row.1)
    × AreSeriesOf (at + length (series_text row.1)) ss rows

-- samples that a block of a range may have: each time is a time and lies in the range, each value
-- has 64 bits
pub record AreStorable (range : ℤ × ℤ) (samples : List (ℤ × ℤ)) : Type 0 where
  pub inside : AllByRecursion (λ (s : ℤ × ℤ). covers range s.0 ≡ true) samples
  pub times : T (list_all (λ (s : ℤ × ℤ). in_range MIN_TIME MAX_TIME s.0) samples)
  pub values : AllByRecursion (λ (s : ℤ × ℤ). FitsSigned w64 s.1) samples

-- a row that a block of a range may have: no more than 1,048,576 samples
pub record IsStorable (range : ℤ × ℤ) (row : Row) : Type 0 where
  pub few : length row.1 ≤ 1048576
  pub samples : AreStorable range row.1

-- rows under the references of series
abbrev pub numbered : List Series → List Row → Part
numbered [] rows = []
numbered (s ∷ ss) [] = []
numbered (s ∷ ss) (row ∷ rows) = (s.reference, row) ∷ numbered ss rows
