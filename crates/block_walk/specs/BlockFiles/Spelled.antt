-- A block's part, by what its index, its chunks and its deletions spell.
use Rattle.std.specs.Prelude.{◌≡◌, ℕ, ◌≤◌, ℤ, List, [], ◌∷◌, ◌++◌, length}
use Rattle.std.specs.List.{AllByRecursion, Contains}
use Rattle.labels.specs.Parts.{Part}
use Rattle.labels.specs.Rows.{Row}
use Rattle.chunk_reader.specs.Grammar.{IsChunk, IsSegment}
use Rattle.tombstones.specs.declared.deletion.Deletion.{Deletion}
use Rattle.tombstones.specs.Grammar.{IsTombstones}
use Rattle.block_walk.specs.declared.chunk.Chunk.{Chunk}
use Rattle.block_walk.specs.IndexFile.Series.{Series, references}
use Rattle.block_walk.specs.IndexFile.Spelled.{IsIndex}
use Rattle.block_walk.specs.BlockFiles.Samples.{undeleted}

-- these samples stand in these chunks, one chunk after the other
abbrev pub AreSpelled : List ℕ → List Chunk → List (ℤ × ℤ) → Type 0
AreSpelled file [] samples = samples ≡ []
AreSpelled file (c ∷ cs) samples = (first rest : List (ℤ × ℤ)) × (samples ≡ first ++ rest)
    × IsChunk file c.reference c.mint c.maxt first × AreSpelled file cs rest

-- the row of a series: its reference, its label set, and the samples of its chunks that no deletion
-- covers; its chunks have no more than 1,048,576 samples
pub record IsRow (file : List ℕ) (deletions : List Deletion) (s : Series) (row : ℕ × Row) : Type 0
  where
    pub reference : row.0 ≡ s.reference
    pub labels : row.1.0 ≡ s.labels
    pub samples : List (ℤ × ℤ)
    pub spelled : AreSpelled file s.chunks samples
    pub few : length samples ≤ 1048576
    pub kept : row.1.1 ≡ undeleted deletions s.reference samples

-- a row for each series
abbrev pub AreRowsOfSeries : List ℕ → List Deletion → List Series → Part → Type 0
AreRowsOfSeries file deletions [] [] = Unit {0}
AreRowsOfSeries file deletions [] (row ∷ rows) = ⊥
AreRowsOfSeries file deletions (s ∷ ss) [] = ⊥
AreRowsOfSeries file deletions (s ∷ ss) (row ∷ rows) = IsRow file deletions s row
    × AreRowsOfSeries file deletions ss rows

-- the three files are an index, whatever its postings are, a segment that holds the chunks which
-- the index names, and deletions of its series; and the rows of the series are the part
pub record IsWalked (index chunks tombstones : List ℕ) (part : Part) : Type 0 where
  pub series : List Series
  pub indexed : IsIndex index series
  pub segment : IsSegment chunks
  pub deletions : List Deletion
  pub deleted : IsTombstones tombstones deletions
  pub known : AllByRecursion (λ (d : Deletion). Contains (references series) d.reference) deletions
  pub rows : AreRowsOfSeries chunks deletions series part
