-- The samples that the files of a block keep.
use Rattle.block.specs.declared.files.Files.{Files}
use Rattle.block.specs.Samples.{Source}
use Rattle.block.specs.Packing.{source_of, ArePackedFrom}
use Rattle.std.specs.Prelude.{ℕ, List}
use Rattle.index_reader.specs.declared.chunk.Chunk.{Chunk}

-- the samples of the chunks of their index
abbrev pub source_in : Files → Source
source_in f = source_of f.index f.packed

-- the samples of chunks stand side by side, from a place on
abbrev pub AreKeptFrom : Files → ℕ → List Chunk → Type 0
AreKeptFrom f first chunks = ArePackedFrom (source_in f) f.packed first chunks
