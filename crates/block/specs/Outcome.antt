-- What a call answered, against what reading gives.
use Rattle.std.specs.Prelude.{Bool, true, false, List, Result}
use Rattle.wire.specs.Outcome as outcome
use Rattle.index_reader.specs.declared.error.IndexError.{IndexError}
use Rattle.index_reader.specs.declared.error.IndexError.TheVariants as index
use Rattle.chunk_reader.specs.declared.error.ChunkError.{ChunkError}
use Rattle.chunk_reader.specs.declared.error.ChunkError.TheVariants as chunk
use Rattle.tombstones.specs.declared.error.TombstoneError.{TombstoneError}
use Rattle.tombstones.specs.declared.error.TombstoneError.TheVariants as tombstone
use Rattle.tombstones.specs.declared.deletion.Deletion.{Deletion}
use Rattle.block.specs.declared.error.BlockError.{BlockError}
use Rattle.block.specs.declared.error.BlockError.TheVariants.{Memory, Index, Chunks, Tombstones}

-- whether an error says nothing of the files
abbrev pub is_memory : BlockError → Bool
is_memory Memory = true
is_memory e = false

-- the refusal is that of reading; a want of memory says nothing of it
abbrev pub Fails : {Y : Type 0} → BlockError → Result Y BlockError → Type 0
Fails e read = outcome.Fails is_memory e read

-- what a function returned, seen by view, is what reading gives, unless memory ran out
abbrev pub Gives : {X Y : Type 0} → (X → Y) → Result X BlockError → Result Y BlockError → Type 0
Gives view result read = outcome.Gives is_memory view result read

-- what was returned holds the deletions that reading gives, in an order of its own
abbrev pub GivesAll : Result (List Deletion) BlockError → Result (List Deletion) BlockError → Type 0
GivesAll result read = outcome.GivesAll is_memory result read

-- the refusal of an index, as that of its block
abbrev pub of_index : IndexError → BlockError
of_index index.Memory = Memory
of_index e = Index e

-- the refusal of chunks
abbrev pub of_chunk : ChunkError → BlockError
of_chunk chunk.Memory = Memory
of_chunk e = Chunks e

-- the refusal of tombstones
abbrev pub of_tombstone : TombstoneError → BlockError
of_tombstone tombstone.Memory = Memory
of_tombstone e = Tombstones e
