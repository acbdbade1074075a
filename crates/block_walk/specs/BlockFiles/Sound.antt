-- What holds of the chunks of series that were checked.
use Rattle.std.specs.Prelude.{◌≡◌, ℕ, List, [], ◌∷◌, length, Ok}
use Rattle.std.specs.Int.Signed.{◌≤ℤ◌, ◌<ℤ◌}
use Rattle.chunk_reader.specs.Grammar.{IsChunk}
use Rattle.block_walk.specs.declared.chunk.Chunk.{Chunk}
use Rattle.block_walk.specs.BlockFiles.Samples.{chunk_read, chunk_samples}

-- a chunk is read, and is what stands in the file
pub record IsHeld (file : List ℕ) (c : Chunk) : Type 0 where
  pub reads : chunk_read file c ≡ Ok (chunk_samples file c)
  pub stands : IsChunk file c.reference c.mint c.maxt (chunk_samples file c)

-- a chunk is held, of so many samples
pub record IsCounted (file : List ℕ) (c : Chunk) (count : ℕ) : Type 0 where
  pub count_is : count ≡ length (chunk_samples file c)
  pub held : IsHeld file c

-- each chunk begins after the end of the one before
abbrev pub AreBehind : Chunk → List Chunk → Type 0
AreBehind before [] = Unit {0}
AreBehind before (c ∷ cs) = (before.maxt <ℤ c.mint) × (c.mint ≤ℤ c.maxt) × AreBehind c cs

-- no chunk ends before it begins, and each begins after the end of the one before
abbrev pub AreInTurn : List Chunk → Type 0
AreInTurn [] = Unit {0}
AreInTurn (c ∷ cs) = (c.mint ≤ℤ c.maxt) × AreBehind c cs
