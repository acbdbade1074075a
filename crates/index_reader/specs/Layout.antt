-- Where the parts of an index stand: the words that its grammar and its reader share.
use Rattle.std.specs.Cmp.Lexicographic.{slice_cmp}
use Rattle.std.specs.Ordering.{is_lt, nat_cmp, ordering_then}
use Rattle.std.specs.Prelude.{◌≡◌, ℕ, ◌+◌, ◌<◌, ◌≤◌, true, List, [], ◌∷◌, Bool, ◌&&◌, nat_lt}
use Rattle.std.specs.Prelude.{nat_le, ◌==◌, if◌then◌else◌, ◌⊎◌, ◌*◌, ◌/◌}
use Rattle.index_reader.specs.declared.chunk.Chunk.{Chunk}
use Rattle.index_reader.specs.declared.layout.TableOfContents.{TableOfContents}

-- ---- the table of contents

-- the parts of a file of this length stand in their order
pub record IsPlaced (t : TableOfContents) (len : ℕ) : Type 0 where
  pub long : 57 ≤ len
  pub short : len ≤ 0x4000_0000
  pub symbols : t.symbols ≡ 5
  pub series : 5 < t.series
  pub postings : t.series ≤ t.postings
  pub postings_offsets : t.postings ≤ t.postings_offsets
  pub end : t.postings_offsets + 52 < len
  pub label_indices : (t.label_indices ≡ 0)
      ⊎ ((t.series ≤ t.label_indices) × (t.label_indices ≤ t.postings))
  pub label_offsets : (t.label_offsets ≡ 0)
      ⊎ ((t.postings ≤ t.label_offsets) × (t.label_offsets ≤ t.postings_offsets))

-- where the series entries end
abbrev pub series_end : TableOfContents → ℕ
series_end t = if t.label_indices == 0 then t.postings else t.label_indices

-- where the postings end
abbrev pub postings_end : TableOfContents → ℕ
postings_end t = if t.label_offsets == 0 then t.postings_offsets else t.label_offsets

-- ---- symbols

-- whether a text is below another, by bytes
abbrev pub is_less : List ℕ → List ℕ → Bool
is_less a b = is_lt (slice_cmp nat_cmp a b)

-- whether each text is below the next
unfoldable pub ascending : List (List ℕ) → Bool
ascending [] = true
ascending (a ∷ []) = true
ascending (a ∷ b ∷ rest) = is_less a b && ascending (b ∷ rest)

-- ---- series entries

-- where an entry stands, its body, and where it ends
pub record SeriesEntry : Type 0 where
  pub offset : ℕ
  pub body : List ℕ
  pub end : ℕ

-- the next multiple of 16
abbrev pub rounded : ℕ → ℕ
rounded n = (n + 15) / 16 * 16

-- a name and a value, by the numbers of their symbols
abbrev pub Label : Type 0
Label = ℕ × ℕ

-- what a body says
pub record Body : Type 0 where
  pub labels : List Label
  pub chunks : List Chunk

-- ---- the offset table

-- an entry of the table: its name, its value, and where its section stands
pub record TableEntry : Type 0 where
  pub name : List ℕ
  pub value : List ℕ
  pub offset : ℕ

-- whether an entry is below another: by name, and then by value, by bytes
abbrev pub is_before : TableEntry → TableEntry → Bool
is_before a b =
    is_lt (ordering_then (slice_cmp nat_cmp a.name b.name) (slice_cmp nat_cmp a.value b.value))

-- whether the section stands from the first place up to the second
abbrev pub is_within : ℕ → ℕ → TableEntry → Bool
is_within from to l = nat_le from l.offset && nat_lt l.offset to

-- each is less than the next
unfoldable pub rises : {X : Type 0} → (X → X → Bool) → List X → Bool
rises less [] = true
rises less (a ∷ []) = true
rises less (a ∷ b ∷ rest) = less a b && rises less (b ∷ rest)

-- ---- the whole

-- the table of contents, the symbols and where they end, and the entries
pub record Layout : Type 0 where
  pub contents : TableOfContents
  pub symbols : List (List ℕ)
  pub symbols_end : ℕ
  pub entries : List SeriesEntry
