-- Chunks that were read, without where they lie in memory.
use Rattle.std.specs.Prelude.{ℕ, List, Option, Some, None}
use Rattle.std.specs.Borrow.{Bor}
use Rattle.block_walk.specs.declared.chunk.Chunk.{Chunk}

-- a chunk that was read, and the bytes after it
abbrev pub seen_chunk : Option (Chunk × Bor (List ℕ)) → Option (Chunk × List ℕ)
seen_chunk (Some x) = Some (x.0, x.1.now)
seen_chunk None = None
