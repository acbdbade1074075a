-- All checks of a block's files but those of its postings and its range, in their order.
use Rattle.std.specs.Prelude.{ℕ, Bool, List, [], ◌∷◌, length, Result, Ok, Err, nat_le, ◌==◌}
use Rattle.std.specs.Prelude.{if◌then◌else◌}
use Rattle.std.specs.List.{list_all, list_any}
use Rattle.labels.specs.Parts.{Part}
use Rattle.chunk_reader.specs.declared.error.ChunkError.{ChunkError}
use Rattle.chunk_reader.specs.Reading.{opened}
use Rattle.tombstones.specs.declared.deletion.Deletion.{Deletion}
use Rattle.tombstones.specs.declared.error.TombstoneError.{TombstoneError}
use Rattle.tombstones.specs.Reading.{deletions_of}
use Rattle.block_walk.specs.declared.chunk.Chunk.{Chunk}
use Rattle.block_walk.specs.declared.error.WalkError.{WalkError}
use Rattle.block_walk.specs.declared.error.WalkError.TheVariants.{Limit, UnknownSeries}
use Rattle.block_walk.specs.IndexFile.Outcome.{of_chunk, of_tombstone}
use Rattle.wire.specs.Outcome.{◌>>=◌}
use Rattle.block_walk.specs.IndexFile.Series.{Series}
use Rattle.block_walk.specs.IndexFile.Whole.{indexed_of}
use Rattle.block_walk.specs.BlockFiles.Samples.{chunk_read, samples_in, part_of}

-- what was read of the chunks, or their refusal
abbrev pub or_chunks : {A : Type 0} → Result A ChunkError → Result A WalkError
or_chunks (Ok x) = Ok x
or_chunks (Err e) = Err (of_chunk e)

-- what was read of the tombstones, or their refusal
abbrev pub or_tombstones : {A : Type 0} → Result A TombstoneError → Result A WalkError
or_tombstones (Ok x) = Ok x
or_tombstones (Err e) = Err (of_tombstone e)

-- nothing, where a check accepts all of a list; else the first refusal
unfoldable pub each_check : {A : Type 0} → (A → Result (Unit {0}) ChunkError) → List A
    → Result (Unit {0}) ChunkError
each_check check [] = Ok tt
each_check check (a ∷ as') = check a >>= λ _. each_check check as'

-- a chunk that can be read
abbrev pub chunk_check : List ℕ → Chunk → Result (Unit {0}) ChunkError
chunk_check file c = chunk_read file c >>= λ _. Ok tt

-- all chunks of a series
abbrev pub series_check : List ℕ → Series → Result (Unit {0}) ChunkError
series_check file s = each_check (chunk_check file) s.chunks

-- whether chunks have no more than 1,048,576 samples, deleted ones too
abbrev pub have_few : List ℕ → List Chunk → Bool
have_few file chunks = nat_le (length (samples_in file chunks)) 1048576

-- whether a series has no more
abbrev pub is_few : List ℕ → Series → Bool
is_few file s = have_few file s.chunks

-- whether a deletion is of a series that there is
abbrev pub is_known : List Series → Deletion → Bool
is_known series d = list_any (λ s. s.reference == d.reference) series

-- the chunks of all series, in their order, and then whether each has few samples
unfoldable pub stored_of : List ℕ → List Series → Result (Unit {0}) WalkError
stored_of file series = do
  each_read ← or_chunks (each_check (series_check file) series)
  if list_all (is_few file) series then Ok tt else Err Limit

-- the deletions, all of series that there are
unfoldable pub deleted_of : List ℕ → List Series → Result (List Deletion) WalkError
deleted_of tombstones series = do
  deletions ← or_tombstones (deletions_of tombstones)
  if list_all (is_known series) deletions then Ok deletions else Err UnknownSeries

-- the first check that fails, or the part
unfoldable pub walked_of : List ℕ → List ℕ → List ℕ → Result Part WalkError
walked_of index chunks tombstones = do
  series ← indexed_of index
  file ← or_chunks (opened chunks)
  stored ← stored_of file series
  deletions ← deleted_of tombstones series
  Ok (part_of file deletions series)
