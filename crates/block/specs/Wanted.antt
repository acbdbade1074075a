-- The samples of a series that are asked for.
use Rattle.std.specs.Prelude.{◌≡◌, ℕ, ◌+◌, ◌<◌, ◌≤◌, ℤ, List, Bool, not, ◌&&◌, ◌||◌, int_lt, int_le}
use Rattle.std.specs.Prelude.{length, slice_get}
use Rattle.std.specs.List.{AllByRecursion}
use Rattle.index_reader.specs.declared.chunk.Chunk.{Chunk}
use Rattle.tombstones.specs.declared.deletion.Deletion.{Deletion}
use Rattle.tombstones.specs.Covering.{covered, has_deletion}
use Rattle.labels.specs.Contents.{in_range}
use Rattle.block.specs.declared.samples.Wanted.{Wanted}
use Rattle.block.specs.Samples.{Source}
use Rattle.block.specs.Sound.{IsHeldChunk}

-- whether a time lies in the closed range and no deletion of the series covers it
abbrev pub is_wanted : List Deletion → ℕ → ℤ → ℤ → ℤ → Bool
is_wanted deletions reference from to t = in_range from to t && not (covered deletions reference t)

-- whether a time is asked for: it lies in the wanted range, and no deletion of the series covers it
abbrev pub wants : Wanted → ℤ → Bool
wants wanted t =
    is_wanted wanted.tombstones.now wanted.reference wanted.times.from wanted.times.to t

-- whether the first or the last time of a chunk is asked for
abbrev pub wants_end : Wanted → Chunk → Bool
wants_end wanted c = wants wanted c.mint || wants wanted c.maxt

-- enough for all of a chunk's times to be asked for: they lie in the closed range, and no deletion
-- is of the series
abbrev pub wants_whole : List Deletion → ℕ → ℤ → ℤ → Chunk → Bool
wants_whole deletions reference from to c =
    int_le from c.mint && (int_le c.maxt to && not (has_deletion deletions reference))

-- the same of what is asked of a series
abbrev pub wants_all : Wanted → Chunk → Bool
wants_all wanted c =
    wants_whole wanted.tombstones.now wanted.reference wanted.times.from wanted.times.to c

-- whether a chunk may have a sample in the closed range
abbrev pub meets : ℤ → ℤ → Chunk → Bool
meets from to c = not (int_lt c.maxt from) && not (int_lt to c.mint)

-- each of the chunks has samples of its times
abbrev pub AreHeldChunks : Source → List Chunk → Type 0
AreHeldChunks source chunks = AllByRecursion (IsHeldChunk source) chunks

-- these chunks stand side by side among those, from a place on
pub record AreSideBySide (place : ℕ) (these those : List Chunk) : Type 0 where
  pub inside : place + length these ≤ length those
  pub each : (k : ℕ) → k < length these → slice_get these k ≡ slice_get those (place + k)
