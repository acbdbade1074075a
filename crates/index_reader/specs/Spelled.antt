-- A whole index, by the bytes that spell it.
use Rattle.std.specs.Prelude.{◌≡◌, ℕ, ◌+◌, ◌-◌, ◌^◌, ◌<◌, ◌≤◌, ◌⊎◌, ℤ, pos, ◌+ℤ◌, true, List, []}
use Rattle.std.specs.Prelude.{◌∷◌, ◌++◌, length, get_or, map, slice_index, slice_range}
use Rattle.std.specs.List.{flat_map, list_all, Contains}
use Rattle.std.specs.List.Sorted.{IsStrictlyIncreasing}
use Rattle.byteorder.specs.Endian.{big_bytes}
use Rattle.labels.specs.Names.{is_name}
use Rattle.wire.specs.Spelling.{uvarint, varint, zigzag}
use Rattle.index_reader.specs.declared.layout.TableOfContents.{TableOfContents}
use Rattle.index_reader.specs.declared.chunk.Chunk.{Chunk}
use Rattle.labels.specs.Contents.{is_time}
use Rattle.index_reader.specs.Layout.{SeriesEntry, Layout, series_end, Label, Body, TableEntry}
use Rattle.index_reader.specs.Layout.{is_before, is_within, rises, postings_end}
use Rattle.index_reader.specs.Grammar.{frame, symbol, StandsAt, IsLayout}
use Rattle.index_reader.specs.Indexes.{Series, Indexed, references, references_with, series_of}
use Rattle.index_reader.specs.Indexes.{IsConsistent}

-- ---- labels, by the numbers of their symbols

-- a label of these symbols: its name is a label name that stands at this place or after it, its
-- value is not empty
pub record IsLabel (symbols : List (List ℕ)) (low : ℕ) (l : Label) : Type 0 where
  pub from : low ≤ l.0
  pub name_in : l.0 < length symbols
  pub value_in : l.1 < length symbols
  pub name : is_name (get_or symbols l.0 []) ≡ true
  pub value : 0 < length (get_or symbols l.1 [])

-- each name stands after the one before
abbrev pub AreLabels : List (List ℕ) → ℕ → List Label → Type 0
AreLabels symbols low [] = Unit {0}
AreLabels symbols low (l ∷ ls) = IsLabel symbols low l × AreLabels symbols (l.0 + 1) ls

-- a label: the numbers of the symbols of its name and its value
abbrev pub label_text : Label → List ℕ
label_text l = uvarint l.0 ++ uvarint l.1

-- the first chunk of a series: its first time, how much later its last is, its reference
pub record IsFirst (c : Chunk) (text : List ℕ) : Type 0 where
  pub span : ℕ
  pub spelled : text ≡ varint c.mint ++ (uvarint span ++ uvarint c.reference)
  pub span_fits : span < 2 ^ 64
  pub fits : c.reference < 2 ^ 64
  pub ends : c.maxt ≡ c.mint +ℤ pos span
  pub begins_in_time : is_time c.mint ≡ true
  pub ends_in_time : is_time c.maxt ≡ true

-- a later chunk: how much later it begins than the one before it ends, how much later its last time
-- is, how much greater its reference is
pub record IsLater (before c : Chunk) (text : List ℕ) : Type 0 where
  pub gap : ℕ
  pub span : ℕ
  pub step : ℤ
  pub spelled : text ≡ uvarint gap ++ (uvarint span ++ varint step)
  pub gap_fits : gap < 2 ^ 64
  pub span_fits : span < 2 ^ 64
  pub step_fits : zigzag step < 2 ^ 64
  pub later : 0 < gap
  pub begins : c.mint ≡ before.maxt +ℤ pos gap
  pub ends : c.maxt ≡ c.mint +ℤ pos span
  pub refers : pos c.reference ≡ pos before.reference +ℤ step
  pub begins_in_time : is_time c.mint ≡ true
  pub ends_in_time : is_time c.maxt ≡ true
  pub fits : c.reference < 2 ^ 64

-- chunks after another, in their order
abbrev pub AreLater : Chunk → List Chunk → List ℕ → Type 0
AreLater before [] text = text ≡ []
AreLater before (c ∷ cs) text =
    (first rest : List ℕ) × (text ≡ first ++ rest) × IsLater before c first × AreLater c cs rest

-- the chunks of a series, of which there is one at least: their count, the first, and the later
-- ones
abbrev pub AreChunks : List Chunk → List ℕ → Type 0
AreChunks [] text = ⊥
AreChunks (c ∷ cs) text =
    (first rest : List ℕ)
    × (text ≡ uvarint (length cs + 1) ++ (first ++ rest))
    × IsFirst c first
    × AreLater c cs rest

-- the body of a series entry: the count of its labels, the labels, its chunks
pub record IsBody (symbols : List (List ℕ)) (b : Body) (text : List ℕ) : Type 0 where
  pub chunks_text : List ℕ
  pub spelled : text ≡ (uvarint (length b.labels) ++ flat_map label_text b.labels) ++ chunks_text
  pub labels : AreLabels symbols 0 b.labels
  pub chunks : AreChunks b.chunks chunks_text

-- the body of each entry
abbrev pub AreBodies : List (List ℕ) → List SeriesEntry → List Body → Type 0
AreBodies symbols [] [] = Unit {0}
AreBodies symbols [] (b ∷ bs) = ⊥
AreBodies symbols (p ∷ ps) [] = ⊥
AreBodies symbols (p ∷ ps) (b ∷ bs) = IsBody symbols b p.body × AreBodies symbols ps bs

-- a place in the file lies in an entry
abbrev pub LiesIn : ℕ → SeriesEntry → Type 0
LiesIn k p = (p.offset ≤ k) × (k < p.end)

-- from one place up to another, each byte in no entry is 0
abbrev pub AreZero : List ℕ → ℕ → ℕ → List SeriesEntry → Type 0
AreZero file from to entries =
    (k : ℕ) → from ≤ k → k < to
    → ((p : SeriesEntry) → Contains entries p → LiesIn k p → ⊥)
    → slice_index file k ≡ 0

-- an entry of the postings offset table
abbrev pub listed_text : TableEntry → List ℕ
listed_text l = (2 ∷ []) ++ (symbol l.name ++ (symbol l.value ++ uvarint l.offset))

-- the content of the table
abbrev pub table_text : List TableEntry → List ℕ
table_text table = big_bytes 4 (length table) ++ flat_map listed_text table

-- the table stands at its place and ends where the table of contents begins; its entries ascend by
-- name and value, and name places among the postings; the frame of the label offset table is sound,
-- where there is one
pub record IsTable (file : List ℕ) (t : TableOfContents) (table : List TableEntry) : Type 0 where
  pub others : (t.label_offsets ≡ 0)
      ⊎ ((content : List ℕ) × StandsAt file t.label_offsets t.postings_offsets (frame content))
  pub stands : slice_range file t.postings_offsets (length file - 52) ≡ frame (table_text table)
  pub rising : rises is_before table ≡ true
  pub within : list_all (is_within t.postings (postings_end t)) table ≡ true

-- the content of a postings section
abbrev pub list_text : List ℕ → List ℕ
list_text refs = big_bytes 4 (length refs) ++ flat_map (big_bytes 4) refs

-- the section of each entry of the table, below this place
abbrev pub AreSections : List ℕ → ℕ → List TableEntry → List (List ℕ) → Type 0
AreSections file end [] [] = Unit {0}
AreSections file end [] (refs ∷ lists) = ⊥
AreSections file end (l ∷ table) [] = ⊥
AreSections file end (l ∷ table) (refs ∷ lists) =
    StandsAt file l.offset end (frame (list_text refs))
    × IsStrictlyIncreasing refs
    × AreSections file end table lists

-- the pairs of a table
abbrev pub pairs_of : List TableEntry → List (List ℕ × List ℕ)
pairs_of table = map (λ l. (l.name, l.value)) table

-- what each pair lists
abbrev pub lists_for : List (List ℕ × List ℕ) → List Series → List (List ℕ)
lists_for pairs series = map (λ p. references_with p.0 p.1 series) pairs

-- the file is an index of these series and pairs: its layout; a body in each entry, and after the
-- symbols, up to where the series end, 0 in each byte of no entry; a table that lists the empty pair
-- with all series, and after it exactly the pairs that series carry, each with those series; and no
-- more than 64 labels in a series
pub record IsIndex (file : List ℕ) (x : Indexed) : Type 0 where
  pub parts : Layout
  pub layout : IsLayout file parts
  pub bodies : List Body
  pub spelled : AreBodies parts.symbols parts.entries bodies
  pub gaps : AreZero file parts.symbols_end (series_end parts.contents) parts.entries
  pub series : x.series ≡ series_of parts.symbols parts.entries bodies
  pub few_labels : (k : ℕ) (d : Body) → k < length bodies → length (get_or bodies k d).labels ≤ 64
  pub table : List TableEntry
  pub tabled : IsTable file parts.contents table
  pub listed : pairs_of table ≡ ([], []) ∷ x.pairs
  pub sections : AreSections file (postings_end parts.contents) table
      (references x.series ∷ lists_for x.pairs x.series)
  pub consistent : IsConsistent x
