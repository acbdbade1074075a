-- The samples that chunks hold, and those of them that are not deleted.
use Rattle.std.specs.Prelude.{ℕ, ℤ, List, [], Result, Ok, Err, not, map}
use Rattle.std.specs.List.{filter, flat_map}
use Rattle.labels.specs.Parts.{Part}
use Rattle.labels.specs.Rows.{Row}
use Rattle.chunk_reader.specs.declared.error.ChunkError.{ChunkError}
use Rattle.chunk_reader.specs.Reading.{samples_of}
use Rattle.tombstones.specs.declared.deletion.Deletion.{Deletion}
use Rattle.tombstones.specs.Covering.{covered}
use Rattle.block_walk.specs.declared.chunk.Chunk.{Chunk}
use Rattle.block_walk.specs.IndexFile.Series.{Series}

-- what was read, nothing where it was refused
abbrev pub or_none : Result (List (ℤ × ℤ)) ChunkError → List (ℤ × ℤ)
or_none (Ok samples) = samples
or_none (Err e) = []

-- what reading a chunk that a series names gives
abbrev pub chunk_read : List ℕ → Chunk → Result (List (ℤ × ℤ)) ChunkError
chunk_read file c = samples_of file c.reference c.mint c.maxt

-- the samples of a chunk
abbrev pub chunk_samples : List ℕ → Chunk → List (ℤ × ℤ)
chunk_samples file c = or_none (chunk_read file c)

-- the samples of chunks, one after the other
abbrev pub samples_in : List ℕ → List Chunk → List (ℤ × ℤ)
samples_in file chunks = flat_map (chunk_samples file) chunks

-- those samples of a series that no deletion covers
abbrev pub undeleted : List Deletion → ℕ → List (ℤ × ℤ) → List (ℤ × ℤ)
undeleted deletions reference samples =
    filter (λ (s : ℤ × ℤ). not (covered deletions reference s.0)) samples

-- a series: its reference, its label set, and the samples of its chunks less the deleted ones
abbrev pub undeleted_row : List ℕ → List Deletion → Series → ℕ × Row
undeleted_row chunks deletions s =
    (s.reference, (s.labels, undeleted deletions s.reference (samples_in chunks s.chunks)))

-- all series
abbrev pub part_of : List ℕ → List Deletion → List Series → Part
part_of chunks deletions series = map (undeleted_row chunks deletions) series
