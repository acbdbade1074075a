-- What a call answered, against what reading gives.
use Rattle.std.specs.Prelude.{Bool, true, false, Result}
use Rattle.wire.specs.Outcome as outcome
use Rattle.chunk_reader.specs.declared.error.ChunkError.{ChunkError}
use Rattle.chunk_reader.specs.declared.error.ChunkError.TheVariants as chunk
use Rattle.tombstones.specs.declared.error.TombstoneError.{TombstoneError}
use Rattle.tombstones.specs.declared.error.TombstoneError.TheVariants as tombstone
use Rattle.block_walk.specs.declared.error.WalkError.{WalkError}
use Rattle.block_walk.specs.declared.error.WalkError.TheVariants.{Memory, Chunks, Tombstones}

-- whether an error says nothing of the files
abbrev pub is_memory : WalkError → Bool
is_memory Memory = true
is_memory e = false

-- the refusal is that of reading; a want of memory says nothing of it
abbrev pub Fails : {Y : Type 0} → WalkError → Result Y WalkError → Type 0
Fails e read = outcome.Fails is_memory e read

-- what a function returned, seen by view, is what reading gives, unless memory ran out
abbrev pub Gives : {X Y : Type 0} → (X → Y) → Result X WalkError → Result Y WalkError → Type 0
Gives view result read = outcome.Gives is_memory view result read

-- the refusal of chunks, as that of the walk
abbrev pub of_chunk : ChunkError → WalkError
of_chunk chunk.Memory = Memory
of_chunk e = Chunks e

-- the refusal of tombstones
abbrev pub of_tombstone : TombstoneError → WalkError
of_tombstone tombstone.Memory = Memory
of_tombstone e = Tombstones e
