-- What a block shows.
use Rattle.std.specs.Prelude.{◌≡◌, ℕ, ◌+◌, ℤ, true, List, [], ◌∷◌, length, map}
use Rattle.std.specs.List.{AllByRecursion}
use Rattle.std.specs.List.Sorted.{IsSortedBy}
use Rattle.labels.specs.Parts.{Part}
use Rattle.labels.specs.Rows.{Row, row_before}
use Rattle.index_reader.specs.Indexes.{Series, Indexed}
use Rattle.tombstones.specs.declared.deletion.Deletion.{Deletion}
use Rattle.block.specs.Ranges.{covers}
use Rattle.block.specs.Samples.{Source, samples_in, undeleted}

-- the times that the block covers, its part, and the pairs that its series carry
pub record Shown : Type 0 where
  pub range : ℤ × ℤ
  pub part : Part
  pub pairs : List (List ℕ × List ℕ)

-- a series: its reference, its label set, and the samples of its chunks less the deleted ones
abbrev pub series_row : Source → List Deletion → Series → ℕ × Row
series_row source deletions s =
    (s.reference, (s.labels, undeleted deletions s.reference (samples_in source s.chunks)))

-- the rows of all series
abbrev pub part_of_series : Source → List Deletion → List Series → Part
part_of_series source deletions series = map (series_row source deletions) series

-- a range, the samples of chunks, what the index holds and the deletions, as what a block shows
abbrev pub shown_of : ℤ × ℤ → Source → Indexed → List Deletion → Shown
shown_of range source x deletions =
    record { range = range; part = part_of_series source deletions x.series; pairs = x.pairs }

-- the time of each sample lies in the range
abbrev pub AreInside : ℤ × ℤ → Part → Type 0
AreInside range part =
    AllByRecursion
    (λ (row : ℕ × Row). AllByRecursion (λ (s : ℤ × ℤ). covers range s.0 ≡ true) row.1.1) part

-- no row of the part stands before one of a smaller label set
abbrev pub AreInLabelOrder : Part → Type 0
AreInLabelOrder part = IsSortedBy (λ (a b : ℕ × Row). row_before a.1 b.1) part

-- how many samples a part has
abbrev pub sample_count : Part → ℕ
sample_count [] = 0
sample_count (row ∷ rows) = length row.1.1 + sample_count rows
