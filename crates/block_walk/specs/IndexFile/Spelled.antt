-- The series of an index, by the bytes that spell them.
use Rattle.std.specs.Prelude.{◌≡◌, ℕ, ◌+◌, ◌^◌, ◌<◌, ◌≤◌, ℤ, pos, ◌+ℤ◌, true, List, [], ◌∷◌, ◌++◌}
use Rattle.std.specs.Prelude.{length, get_or, slice_index}
use Rattle.std.specs.List.{flat_map, Contains}
use Rattle.std.specs.declared.cmp.Ordering.TheVariants.{Less}
use Rattle.wire.specs.Spelling.{uvarint, varint, zigzag}
use Rattle.labels.specs.Labels.{labels_cmp}
use Rattle.block_walk.specs.declared.chunk.Chunk.{Chunk}
use Rattle.block_walk.specs.IndexFile.Layout.{SeriesEntry, Layout, series_end, Label, Body}
use Rattle.block_walk.specs.IndexFile.Grammar.{IsLayout}
use Rattle.labels.specs.Contents.{is_time}
use Rattle.block_walk.specs.IndexFile.Series.{Series, series_of, label_sets}
use Rattle.block_walk.specs.IndexFile.Labelled.{AreLabels}

-- a label: the numbers of the symbols of its name and its value
abbrev pub label_text : Label → List ℕ
label_text l = uvarint l.0 ++ uvarint l.1

-- the first chunk of a series: its first time, how much later its last is, its reference
pub record IsFirst (c : Chunk) (text : List ℕ) : Type 0 where
  pub span : ℕ
  pub spelled : text ≡ varint c.mint ++ (uvarint span ++ uvarint c.reference)
  pub span_fits : span < 2 ^ 64
  pub fits : c.reference < 2 ^ 64
  pub ends : c.maxt ≡ c.mint +ℤ pos span
  pub begins_in_time : is_time c.mint ≡ true
  pub ends_in_time : is_time c.maxt ≡ true

-- a later chunk: how much later it begins than the one before it ends, how much later its last time
-- is, how much greater its reference is
pub record IsLater (before c : Chunk) (text : List ℕ) : Type 0 where
  pub gap : ℕ
  pub span : ℕ
  pub step : ℤ
  pub spelled : text ≡ uvarint gap ++ (uvarint span ++ varint step)
  pub gap_fits : gap < 2 ^ 64
  pub span_fits : span < 2 ^ 64
  pub step_fits : zigzag step < 2 ^ 64
  pub later : 0 < gap
  pub begins : c.mint ≡ before.maxt +ℤ pos gap
  pub ends : c.maxt ≡ c.mint +ℤ pos span
  pub refers : pos c.reference ≡ pos before.reference +ℤ step
  pub begins_in_time : is_time c.mint ≡ true
  pub ends_in_time : is_time c.maxt ≡ true
  pub fits : c.reference < 2 ^ 64

-- chunks after another, one after the other
abbrev pub AreLater : Chunk → List Chunk → List ℕ → Type 0
AreLater before [] text = text ≡ []
AreLater before (c ∷ cs) text = (first rest : List ℕ) × (text ≡ first ++ rest)
    × IsLater before c first × AreLater c cs rest

-- the chunks of a series, of which there is one at least: their count, the first, and the later
-- ones
abbrev pub AreChunks : List Chunk → List ℕ → Type 0
AreChunks [] text = ⊥
AreChunks (c ∷ cs) text = (first rest : List ℕ)
    × (text ≡ uvarint (length cs + 1) ++ (first ++ rest)) × IsFirst c first × AreLater c cs rest

-- the body of a series entry: the count of its labels, the labels, its chunks
pub record IsBody (symbols : List (List ℕ)) (b : Body) (text : List ℕ) : Type 0 where
  pub chunks_text : List ℕ
  pub spelled : text ≡ (uvarint (length b.labels) ++ flat_map label_text b.labels) ++ chunks_text
  pub labels : AreLabels symbols 0 b.labels
  pub chunks : AreChunks b.chunks chunks_text

-- the body of each entry
abbrev pub AreBodies : List (List ℕ) → List SeriesEntry → List Body → Type 0
AreBodies symbols [] [] = Unit {0}
AreBodies symbols [] (b ∷ bs) = ⊥
AreBodies symbols (p ∷ ps) [] = ⊥
AreBodies symbols (p ∷ ps) (b ∷ bs) = IsBody symbols b p.body × AreBodies symbols ps bs

-- a place in the file lies in an entry
abbrev pub LiesIn : ℕ → SeriesEntry → Type 0
LiesIn k p = (p.offset ≤ k) × (k < p.end)

-- from one place up to another, each byte in no entry is 0
abbrev pub AreZero : List ℕ → ℕ → ℕ → List SeriesEntry → Type 0
AreZero file from to entries = (k : ℕ) → from ≤ k → k < to
    → ((p : SeriesEntry) → Contains entries p → LiesIn k p → ⊥) → slice_index file k ≡ 0

-- label sets strictly ascend
abbrev pub AreInOrder : List Series → Type 0
AreInOrder ss = (k : ℕ) → k + 1 < length ss → labels_cmp (get_or (label_sets ss) k [])
    (get_or (label_sets ss) (k + 1) []) ≡ Less

-- the file is an index of these series, whatever its postings are: its layout; a body in each
-- entry, and after the symbols, up to where the series end, 0 in each byte of no entry; the series
-- ascend by their label sets, and are no more than 1,048,576, of no more than 64 labels each
pub record IsIndex (file : List ℕ) (series : List Series) : Type 0 where
  pub parts : Layout
  pub layout : IsLayout file parts
  pub bodies : List Body
  pub spelled : AreBodies parts.symbols parts.entries bodies
  pub gaps : AreZero file parts.symbols_end (series_end parts.contents) parts.entries
  pub series_are : series ≡ series_of parts.symbols parts.entries bodies
  pub in_order : AreInOrder series
  pub few : length series ≤ 1048576
  pub few_labels : (k : ℕ) (d : Body) → k < length bodies → length (get_or bodies k d).labels ≤ 64
