-- The samples that chunks hold, and those of them that are not deleted.
use Rattle.std.specs.Prelude.{ℕ, ℤ, List, [], Result, Ok, Err, not}
use Rattle.std.specs.List.{filter, flat_map}
use Rattle.chunk_reader.specs.declared.error.ChunkError.{ChunkError}
use Rattle.chunk_reader.specs.Reading.{samples_of}
use Rattle.index_reader.specs.declared.chunk.Chunk.{Chunk}
use Rattle.tombstones.specs.declared.deletion.Deletion.{Deletion}
use Rattle.tombstones.specs.Covering.{covered}

-- what was read, nothing where it was refused
abbrev pub or_none : Result (List (ℤ × ℤ)) ChunkError → List (ℤ × ℤ)
or_none (Ok samples) = samples
or_none (Err e) = []

-- what reading a chunk that a series names gives
abbrev pub chunk_read : List ℕ → Chunk → Result (List (ℤ × ℤ)) ChunkError
chunk_read file c = samples_of file c.reference c.mint c.maxt

-- which samples a chunk has
abbrev pub Source : Type 0
Source = Chunk → List (ℤ × ℤ)

-- the samples of a chunk, as they stand in a file
abbrev pub chunk_samples : List ℕ → Source
chunk_samples file c = or_none (chunk_read file c)

-- the samples of chunks, one after the other
abbrev pub samples_in : Source → List Chunk → List (ℤ × ℤ)
samples_in source chunks = flat_map source chunks

-- those samples of a series that no deletion covers
abbrev pub undeleted : List Deletion → ℕ → List (ℤ × ℤ) → List (ℤ × ℤ)
undeleted deletions reference samples =
    filter (λ (s : ℤ × ℤ). not (covered deletions reference s.0)) samples
