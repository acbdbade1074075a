-- What holds of each block that was opened.
use Rattle.std.specs.Prelude.{◌≡◌, ℕ, ◌-◌, ◌≤◌, ℤ, Bool, true, ◌&&◌, List, [], ◌∷◌, length, Ok}
use Rattle.std.specs.Prelude.{int_le}
use Rattle.std.specs.Prelude.{int_lt}
use Rattle.std.specs.Int.Signed.{◌≤ℤ◌, ◌<ℤ◌}
use Rattle.std.specs.List.{AllByRecursion}
use Rattle.chunk_reader.specs.Grammar.{IsBatch, IsChunk, time_at}
use Rattle.index_reader.specs.declared.chunk.Chunk.{Chunk}
use Rattle.index_reader.specs.Indexes.{Series, Indexed, IsConsistent}
use Rattle.block.specs.Samples.{Source, chunk_read, chunk_samples, samples_in}

-- whether a chunk's times lie in a range, whose end does not
abbrev pub lies_in : ℤ × ℤ → Chunk → Bool
lies_in range c = int_le range.0 c.mint && int_lt c.maxt range.1

-- a chunk is read, and is what stands in the file
pub record IsReadChunk (file : List ℕ) (c : Chunk) : Type 0 where
  pub reads : chunk_read file c ≡ Ok (chunk_samples file c)
  pub stands : IsChunk file c.reference c.mint c.maxt (chunk_samples file c)

-- a chunk is read, of so many samples
pub record IsCounted (file : List ℕ) (c : Chunk) (count : ℕ) : Type 0 where
  pub count_is : count ≡ length (chunk_samples file c)
  pub held : IsReadChunk file c

-- samples that may be those of a chunk: they begin and end at its times
pub record AreSamplesOf (c : Chunk) (samples : List (ℤ × ℤ)) : Type 0 where
  pub batch : IsBatch samples
  pub first : time_at samples 0 ≡ c.mint
  pub last : time_at samples (length samples - 1) ≡ c.maxt

-- a chunk has such samples
abbrev pub IsHeldChunk : Source → Chunk → Type 0
IsHeldChunk source c = AreSamplesOf c (source c)

-- each chunk begins after the end of the one before
abbrev pub AreBehind : Chunk → List Chunk → Type 0
AreBehind before [] = Unit {0}
AreBehind before (c ∷ cs) = (before.maxt <ℤ c.mint) × (c.mint ≤ℤ c.maxt) × AreBehind c cs

-- no chunk ends before it begins, and each begins after the end of the one before
abbrev pub AreInTurn : List Chunk → Type 0
AreInTurn [] = Unit {0}
AreInTurn (c ∷ cs) = (c.mint ≤ℤ c.maxt) × AreBehind c cs

-- the chunks of a series are held, in the order of their times, not too many samples, and inside
-- the range
pub record IsStored (range : ℤ × ℤ) (source : Source) (s : Series) : Type 0 where
  pub held : AllByRecursion (IsHeldChunk source) s.chunks
  pub in_turn : AreInTurn s.chunks
  pub few : length (samples_in source s.chunks) ≤ 1048576
  pub inside : AllByRecursion (λ (c : Chunk). lies_in range c ≡ true) s.chunks

-- the index is consistent, and the chunks of each of its series are stored
pub record IsSoundBlock (range : ℤ × ℤ) (source : Source) (x : Indexed) : Type 0 where
  pub consistent : IsConsistent x
  pub stored : AllByRecursion (IsStored range source) x.series
