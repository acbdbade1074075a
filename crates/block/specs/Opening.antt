-- All checks of a block, in their order.
use Rattle.std.specs.Prelude.{ℕ, ℤ, Bool, List, [], ◌∷◌, length, Result, Ok, Err, nat_le, ◌==◌}
use Rattle.std.specs.Prelude.{if◌then◌else◌}
use Rattle.std.specs.List.{list_all, list_any}
use Rattle.wire.specs.Outcome.{◌>>=◌}
use Rattle.index_reader.specs.declared.error.IndexError.{IndexError}
use Rattle.index_reader.specs.declared.error.IndexError.TheVariants.{Limit}
use Rattle.index_reader.specs.declared.chunk.Chunk.{Chunk}
use Rattle.index_reader.specs.Indexes.{Series}
use Rattle.index_reader.specs.Reading.Whole.{indexed_of}
use Rattle.chunk_reader.specs.declared.error.ChunkError.{ChunkError}
use Rattle.chunk_reader.specs.Reading.{opened}
use Rattle.tombstones.specs.declared.deletion.Deletion.{Deletion}
use Rattle.tombstones.specs.declared.error.TombstoneError.{TombstoneError}
use Rattle.tombstones.specs.Reading.{deletions_of}
use Rattle.block.specs.declared.error.BlockError.{BlockError}
use Rattle.block.specs.declared.error.BlockError.TheVariants.{Index, UnknownSeries, OutsideRange}
use Rattle.block.specs.Blocks.{Shown, shown_of}
use Rattle.block.specs.Outcome.{of_index, of_chunk, of_tombstone}
use Rattle.block.specs.Samples.{chunk_read, chunk_samples, samples_in}
use Rattle.block.specs.Sound.{lies_in}

-- what was read of the index, or its refusal
abbrev pub or_index : {A : Type 0} → Result A IndexError → Result A BlockError
or_index (Ok x) = Ok x
or_index (Err e) = Err (of_index e)

-- what was read of the chunks, or their refusal
abbrev pub or_chunks : {A : Type 0} → Result A ChunkError → Result A BlockError
or_chunks (Ok x) = Ok x
or_chunks (Err e) = Err (of_chunk e)

-- what was read of the tombstones, or their refusal
abbrev pub or_tombstones : {A : Type 0} → Result A TombstoneError → Result A BlockError
or_tombstones (Ok x) = Ok x
or_tombstones (Err e) = Err (of_tombstone e)

-- nothing, where a check accepts all of a list; else the first refusal
unfoldable pub each : {A : Type 0} → (A → Result (Unit {0}) ChunkError) → List A
    → Result (Unit {0}) ChunkError
each check [] = Ok tt
each check (a ∷ as') = check a >>= λ _. each check as'

-- a chunk that can be read
abbrev pub chunk_check : List ℕ → Chunk → Result (Unit {0}) ChunkError
chunk_check file c = chunk_read file c >>= λ _. Ok tt

-- all chunks of a series
abbrev pub series_check : List ℕ → Series → Result (Unit {0}) ChunkError
series_check file s = each (chunk_check file) s.chunks

-- whether chunks have no more than 1,048,576 samples, deleted ones too
abbrev pub have_few : List ℕ → List Chunk → Bool
have_few file chunks = nat_le (length (samples_in (chunk_samples file) chunks)) 1048576

-- whether a series has no more
abbrev pub is_few : List ℕ → Series → Bool
is_few file s = have_few file s.chunks

-- whether a deletion is of a series that there is
abbrev pub is_known : List Series → Deletion → Bool
is_known series d = list_any (λ s. s.reference == d.reference) series

-- whether the times of all chunks of a series lie in the range
abbrev pub is_inside : ℤ × ℤ → Series → Bool
is_inside range s = list_all (lies_in range) s.chunks

-- the chunks of all series, in their order, and then whether each has few samples
unfoldable pub stored_of : List ℕ → List Series → Result (Unit {0}) BlockError
stored_of file series = do
  each_read ← or_chunks (each (series_check file) series)
  if list_all (is_few file) series then Ok tt else Err (Index Limit)

-- the deletions, all of series that there are
unfoldable pub deleted_of : List ℕ → List Series → Result (List Deletion) BlockError
deleted_of tombstones series = do
  deletions ← or_tombstones (deletions_of tombstones)
  if list_all (is_known series) deletions then Ok deletions else Err UnknownSeries

-- the first check that fails, or what the block shows
unfoldable pub block_of : ℤ × ℤ → List ℕ → List ℕ → List ℕ → Result Shown BlockError
block_of range index chunks tombstones = do
  x ← or_index (indexed_of index)
  file ← or_chunks (opened chunks)
  stored ← stored_of file x.series
  deletions ← deleted_of tombstones x.series
  if list_all (is_inside range) x.series
      then Ok (shown_of range (chunk_samples file) x deletions)
      else Err OutsideRange
