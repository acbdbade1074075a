-- Chunks whose rows stand one after the other.
use Rattle.std.specs.Prelude.{◌≡◌, ℕ, ◌+◌, ◌*◌, ◌^◌, ◌<◌, ◌≤◌, ℤ, List, ◌++◌, length, drop, map}
use Rattle.std.specs.List.{AllByRecursion}
use Rattle.packed_chunks.specs.declared.chunks.Placed.{Placed}
use Rattle.packed_chunks.specs.Packed.{samples_in, IsForm}

-- the samples of one chunk among the rows of all
abbrev pub chunk_in : List ℕ → Placed → List (ℤ × ℤ)
chunk_in rows p = samples_in p.form (drop p.start rows)

-- the samples of each chunk
abbrev pub chunks_in : List ℕ → List Placed → List (List (ℤ × ℤ))
chunks_in rows places = map (chunk_in rows) places

-- the chunk's rows are whole, and bytes that are added at the end change nothing that they mean
pub record IsPlaced (rows : List ℕ) (p : Placed) : Type 0 where
  pub form : IsForm p.form
  pub inside : p.start + p.form.count * p.form.width + 8 ≤ length rows
  pub stands : (more : List ℕ) → chunk_in (rows ++ more) p ≡ chunk_in rows p

-- so is each of the chunks
abbrev pub ArePlaced : List ℕ → List Placed → Type 0
ArePlaced rows places = AllByRecursion (IsPlaced rows) places

-- the same chunk so many bytes further on
abbrev pub moved : ℕ → Placed → Placed
moved by p = record { form = p.form; start = p.start + by }

-- the chunks begin where so many bytes more still make a number of 64 bits
abbrev pub AreMovable : ℕ → List Placed → Type 0
AreMovable by places = AllByRecursion (λ p. p.start + by < 2 ^ 64) places
