-- What a call answered, against what reading gives.
use Rattle.std.specs.Prelude.{Bool, true, false, Result}
use Rattle.wire.specs.Outcome as outcome
use Rattle.chunk_reader.specs.declared.error.ChunkError.{ChunkError}
use Rattle.chunk_reader.specs.declared.error.ChunkError.TheVariants.{Memory}

-- whether an error says nothing of the file
abbrev pub is_memory : ChunkError → Bool
is_memory Memory = true
is_memory e = false

-- what a function returned, seen by view, is what reading gives, unless memory ran out
abbrev pub Gives : {X Y : Type 0} → (X → Y) → Result X ChunkError → Result Y ChunkError → Type 0
Gives view result read = outcome.Gives is_memory view result read
