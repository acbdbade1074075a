-- The samples of an index's chunks, as a block keeps them: one list for each chunk.
use Rattle.std.specs.Prelude.{◌≡◌, ℕ, ◌+◌, ◌^◌, ◌<◌, ◌≤◌, ℤ, Bool, ◌&&◌, ◌==◌, cond, List, [], ◌∷◌}
use Rattle.std.specs.Prelude.{length, map, get_or, slice_get, take, Some}
use Rattle.std.specs.List.{flat_map}
use Rattle.std.specs.Ordering.{int_eq}
use Rattle.index_reader.specs.declared.chunk.Chunk.{Chunk}
use Rattle.index_reader.specs.Indexes.{Indexed, chunk_lists}
use Rattle.block.specs.Samples.{Source}
use Rattle.block.specs.Sound.{IsSoundBlock}

-- the chunks of lists, one after the other
abbrev pub flat : List (List Chunk) → List Chunk
flat lists = flat_map (λ (cs : List Chunk). cs) lists

-- the chunks of all series
abbrev pub all_chunks : Indexed → List Chunk
all_chunks x = flat (chunk_lists x.series)

-- whether both have the same place and times
abbrev pub is_same_chunk : Chunk → Chunk → Bool
is_same_chunk a b = a.reference == b.reference && (int_eq a.mint b.mint && int_eq a.maxt b.maxt)

-- the samples that stand beside the first chunk that is the same
abbrev pub samples_beside : List Chunk → List (List (ℤ × ℤ)) → Source
samples_beside [] lists c = []
samples_beside (x ∷ xs) [] c = []
samples_beside (x ∷ xs) (l ∷ ls) c = cond (is_same_chunk x c) l (samples_beside xs ls c)

-- the samples of the chunks of an index, of which there is a list for each
unfoldable pub source_of : Indexed → List (List (ℤ × ℤ)) → Source
source_of x packed c = samples_beside (all_chunks x) packed c

-- the samples of chunks stand side by side among those of all, from a place on
pub record ArePackedFrom (source : Source) (packed : List (List (ℤ × ℤ))) (first : ℕ)
    (chunks : List Chunk)
    : Type 0 where
  pub inside : first + length chunks ≤ length packed
  pub small : length packed < 2 ^ 64
  pub each : (k : ℕ) → k < length chunks
      → slice_get packed (first + k) ≡ slice_get (map source chunks) k

-- the samples of the chunks of each series stand so, from its start on
pub record ArePacked (starts : List ℕ) (packed : List (List (ℤ × ℤ))) (x : Indexed)
    : Type 0 where
  pub counted : length starts ≡ length x.series
  pub placed : (i first : ℕ) (chunks : List Chunk) → slice_get starts i ≡ Some first
      → slice_get (chunk_lists x.series) i ≡ Some chunks
      → ArePackedFrom (source_of x packed) packed first chunks

-- what was packed of the first lists: the samples of each chunk, and where those of each list begin
pub record IsPackOf (source : Source) (lists : List (List Chunk)) (starts : List ℕ)
    (packed : List (List (ℤ × ℤ)))
    : Type 0 where
  pub counted : length starts ≡ length lists
  pub whole : packed ≡ map source (flat lists)
  pub begun : (k : ℕ) → k < length lists
      → get_or starts k 0 ≡ length (flat (take k lists))

-- no list begins behind the last chunk
abbrev pub AreStarts : List ℕ → List (List (ℤ × ℤ)) → Type 0
AreStarts starts packed = (k : ℕ) → k < length starts → get_or starts k 0 ≤ length packed

-- a block that was opened: it is sound, and its samples are kept
pub record IsOpened (range : ℤ × ℤ) (starts : List ℕ) (packed : List (List (ℤ × ℤ))) (x : Indexed)
    : Type 0 where
  pub sound : IsSoundBlock range (source_of x packed) x
  pub kept : ArePacked starts packed x
