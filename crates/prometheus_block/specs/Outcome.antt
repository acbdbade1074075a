-- What a call answered, against what reading gives.
use Rattle.std.specs.Prelude.{Bool, true, false, Result, Ok, Err}
use Rattle.wire.specs.Outcome as outcome
use Rattle.index_reader.specs.declared.error.IndexError.{IndexError}
use Rattle.index_reader.specs.declared.error.IndexError.TheVariants as index
use Rattle.chunk_reader.specs.declared.error.ChunkError.{ChunkError}
use Rattle.chunk_reader.specs.declared.error.ChunkError.TheVariants as chunk
use Rattle.tombstones.specs.declared.error.TombstoneError.{TombstoneError}
use Rattle.tombstones.specs.declared.error.TombstoneError.TheVariants as tombstone
use Rattle.xor_reader.specs.declared.error.XorError.{XorError}
use Rattle.xor_reader.specs.declared.error.XorError.TheVariants as xor
use Rattle.prometheus_block.specs.declared.error.SourceError.{SourceError}
use Rattle.prometheus_block.specs.declared.error.SourceError.TheVariants.{Memory, Index, Tombstones}
use Rattle.prometheus_block.specs.declared.error.SourceError.TheVariants.{Chunk, Xor}

-- whether an error says nothing of the files
abbrev pub is_memory : SourceError → Bool
is_memory Memory = true
is_memory e = false

abbrev pub of_index : IndexError → SourceError
of_index index.Memory = Memory
of_index e = Index e

abbrev pub of_chunk : ChunkError → SourceError
of_chunk chunk.Memory = Memory
of_chunk e = Chunk e

abbrev pub of_tombstone : TombstoneError → SourceError
of_tombstone tombstone.Memory = Memory
of_tombstone e = Tombstones e

abbrev pub of_xor : XorError → SourceError
of_xor xor.Memory = Memory
of_xor e = Xor e

-- what was read of a chunk's frame, or its refusal
abbrev pub or_chunk : {A : Type 0} → Result A ChunkError → Result A SourceError
or_chunk (Ok x) = Ok x
or_chunk (Err e) = Err (of_chunk e)

-- what was read of a chunk's data, or its refusal
abbrev pub or_xor : {A : Type 0} → Result A XorError → Result A SourceError
or_xor (Ok x) = Ok x
or_xor (Err e) = Err (of_xor e)

-- what a function returned, seen by view, is what reading gives, unless memory ran out
abbrev pub Gives : {X Y : Type 0} → (X → Y) → Result X SourceError → Result Y SourceError → Type 0
Gives view result read = outcome.Gives is_memory view result read
