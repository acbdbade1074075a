-- Where the parts of an index stand: the words that its grammar and its reader share.
use Rattle.std.specs.Prelude.{◌≡◌, ℕ, ◌+◌, ◌≤◌, ◌<◌, ◌⊎◌, ◌*◌, ◌/◌, List, [], ◌∷◌, Bool, true}
use Rattle.std.specs.Prelude.{◌==◌, ◌&&◌, if◌then◌else◌}
use Rattle.std.specs.Ordering.{nat_cmp, is_lt}
use Rattle.std.specs.Cmp.Lexicographic.{slice_cmp}
use Rattle.block_walk.specs.declared.chunk.Chunk.{Chunk}
use Rattle.block_walk.specs.declared.contents.Contents.{Contents}

-- ---- the table of contents

-- the parts of a file of this length stand in their order
pub record IsPlaced (t : Contents) (len : ℕ) : Type 0 where
  pub long : 57 ≤ len
  pub short : len ≤ 0x4000_0000
  pub symbols : t.symbols ≡ 5
  pub series : 5 < t.series
  pub postings : t.series ≤ t.postings
  pub postings_offsets : t.postings ≤ t.postings_offsets
  pub end : t.postings_offsets + 52 < len
  pub label_indices : (t.label_indices ≡ 0)
      ⊎ ((t.series ≤ t.label_indices) × (t.label_indices ≤ t.postings))
  pub label_offsets : (t.label_offsets ≡ 0)
      ⊎ ((t.postings ≤ t.label_offsets) × (t.label_offsets ≤ t.postings_offsets))

-- where the series entries end
abbrev pub series_end : Contents → ℕ
series_end t = if t.label_indices == 0 then t.postings else t.label_indices

-- ---- symbols

-- whether a text is below another, by bytes
abbrev pub is_less : List ℕ → List ℕ → Bool
is_less a b = is_lt (slice_cmp nat_cmp a b)

-- whether each text is below the next
unfoldable pub ascending : List (List ℕ) → Bool
ascending [] = true
ascending (a ∷ []) = true
ascending (a ∷ b ∷ rest) = is_less a b && ascending (b ∷ rest)

-- ---- series entries

-- where an entry stands, its body, and where it ends
pub record SeriesEntry : Type 0 where
  pub offset : ℕ
  pub body : List ℕ
  pub end : ℕ

-- the next multiple of 16
abbrev pub rounded : ℕ → ℕ
rounded n = (n + 15) / 16 * 16

-- a name and a value, by the numbers of their symbols
abbrev pub Label : Type 0
Label = ℕ × ℕ

-- what a body says
pub record Body : Type 0 where
  pub labels : List Label
  pub chunks : List Chunk

-- ---- the whole

-- the table of contents, the symbols and where they end, and the entries
pub record Layout : Type 0 where
  pub contents : Contents
  pub symbols : List (List ℕ)
  pub symbols_end : ℕ
  pub entries : List SeriesEntry
