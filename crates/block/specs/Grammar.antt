-- A whole block, by what its files spell.
use Rattle.std.specs.Prelude.{◌≡◌, ℕ, ◌≤◌, ℤ, true, List, [], ◌∷◌, ◌++◌, length}
use Rattle.std.specs.List.{AllByRecursion, Contains}
use Rattle.labels.specs.Parts.{Part}
use Rattle.labels.specs.Rows.{Row}
use Rattle.index_reader.specs.declared.chunk.Chunk.{Chunk}
use Rattle.index_reader.specs.Indexes.{Series, Indexed, references}
use Rattle.index_reader.specs.Spelled.{IsIndex}
use Rattle.chunk_reader.specs.Grammar.{IsChunk, IsSegment}
use Rattle.tombstones.specs.declared.deletion.Deletion.{Deletion}
use Rattle.tombstones.specs.Grammar.{IsTombstones}
use Rattle.block.specs.Samples.{undeleted}
use Rattle.block.specs.Sound.{lies_in}

-- these samples stand in these chunks, one chunk after the other
abbrev pub AreSpelled : List ℕ → List Chunk → List (ℤ × ℤ) → Type 0
AreSpelled file [] samples = samples ≡ []
AreSpelled file (c ∷ cs) samples =
    (first rest : List (ℤ × ℤ)) × (samples ≡ first ++ rest)
    × IsChunk file c.reference c.mint c.maxt first × AreSpelled file cs rest

-- the row of a series: its reference, its label set, and the samples of its chunks that no deletion
-- covers; it has no more than 1,048,576 samples, and the times of its chunks lie in the range
pub record IsRow (range : ℤ × ℤ) (file : List ℕ) (deletions : List Deletion) (s : Series)
    (row : ℕ × Row) : Type 0 where
  pub reference : row.0 ≡ s.reference
  pub labels : row.1.0 ≡ s.labels
  pub samples : List (ℤ × ℤ)
  pub spelled : AreSpelled file s.chunks samples
  pub few : length samples ≤ 1048576
  pub inside : AllByRecursion (λ (c : Chunk). lies_in range c ≡ true) s.chunks
  pub kept : row.1.1 ≡ undeleted deletions s.reference samples

-- a row for each series
abbrev pub AreRowsOfSeries : ℤ × ℤ → List ℕ → List Deletion → List Series → Part → Type 0
AreRowsOfSeries range file deletions [] [] = Unit {0}
AreRowsOfSeries range file deletions [] (row ∷ rows) = ⊥
AreRowsOfSeries range file deletions (s ∷ ss) [] = ⊥
AreRowsOfSeries range file deletions (s ∷ ss) (row ∷ rows) =
    IsRow range file deletions s row × AreRowsOfSeries range file deletions ss rows

-- the three files are an index, a segment that holds the chunks which the index names, and
-- deletions of its series; and the rows of the series are the part
pub record IsBlock (range : ℤ × ℤ) (index chunks tombstones : List ℕ) (part : Part) : Type 0 where
  pub x : Indexed
  pub indexed : IsIndex index x
  pub segment : IsSegment chunks
  pub deletions : List Deletion
  pub deleted : IsTombstones tombstones deletions
  pub known : AllByRecursion (λ (d : Deletion). Contains (references x.series) d.reference)
      deletions
  pub rows : AreRowsOfSeries range chunks deletions x.series part
