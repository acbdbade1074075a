-- The numbers of refusals.
use Rattle.std.specs.Prelude.{ℕ, List, codes}
use Rattle.index_reader.specs.Codes as index
use Rattle.chunk_reader.specs.Codes as chunk
use Rattle.tombstones.specs.Codes as tombstone
use Rattle.xor_reader.specs.Codes as xor
use Rattle.prometheus_block.specs.declared.error.SourceError.{SourceError}
use Rattle.prometheus_block.specs.declared.error.SourceError.TheVariants.{Memory, Unreadable, Index}
use Rattle.prometheus_block.specs.declared.error.SourceError.TheVariants.{Tombstones, Chunk, Xor}

-- the number of a refusal, as text
abbrev pub code_of : SourceError → List ℕ
code_of Memory = codes "memory"
code_of (Unreadable segment) = codes "unreadable"
code_of (Index error) = index.code_of error
code_of (Tombstones error) = tombstone.code_of error
code_of (Chunk error) = chunk.code_of error
code_of (Xor error) = xor.code_of error
