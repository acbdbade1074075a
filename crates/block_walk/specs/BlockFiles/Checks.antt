-- The checks of the walk, one by one in their order, and the first that fails.
use Rattle.std.specs.Prelude.{◌≡◌, ◌⊎◌, ℕ, ◌-◌, ◌≤◌, ℤ, List, [], ◌∷◌, length, take, drop}
use Rattle.std.specs.Prelude.{Err}
use Rattle.std.specs.List.{AllByRecursion}
use Rattle.labels.specs.Parts.{Part}
use Rattle.chunk_reader.specs.declared.error.ChunkError.{ChunkError}
use Rattle.chunk_reader.specs.Grammar.{IsSegment}
use Rattle.chunk_reader.specs.Reading.{opened}
use Rattle.tombstones.specs.declared.deletion.Deletion.{Deletion}
use Rattle.tombstones.specs.declared.error.TombstoneError.{TombstoneError}
use Rattle.tombstones.specs.Grammar.{IsTombstones}
use Rattle.tombstones.specs.Reading.{deletions_of}
use Rattle.block_walk.specs.declared.contents.Contents.{Contents}
use Rattle.block_walk.specs.declared.error.WalkError.{WalkError}
use Rattle.block_walk.specs.declared.error.WalkError.TheVariants.{Memory, TooShort, Magic}
use Rattle.block_walk.specs.declared.error.WalkError.TheVariants.{Version, ContentsCrc}
use Rattle.block_walk.specs.declared.error.WalkError.TheVariants.{ContentsOrder, SymbolsCrc}
use Rattle.block_walk.specs.declared.error.WalkError.TheVariants.{Symbols, SeriesCrc, Series}
use Rattle.block_walk.specs.declared.error.WalkError.TheVariants.{SeriesOrder, Limit}
use Rattle.block_walk.specs.declared.error.WalkError.TheVariants.{UnknownSeries}
use Rattle.block_walk.specs.IndexFile.Outcome.{of_chunk, of_tombstone}
use Rattle.block_walk.specs.IndexFile.Layout.{IsPlaced, Layout, series_end, Body}
use Rattle.wire.specs.Checksum.{checked}
use Rattle.block_walk.specs.IndexFile.Grammar.{contents_text, frame, StandsAt, IsSymbolTable}
use Rattle.block_walk.specs.IndexFile.Grammar.{IsLayout}
use Rattle.block_walk.specs.IndexFile.Series as series
use Rattle.block_walk.specs.IndexFile.Spelled.{AreBodies, AreZero, AreInOrder, IsIndex}
use Rattle.block_walk.specs.BlockFiles.Reading.{each_check, series_check}
use Rattle.block_walk.specs.BlockFiles.Spelled.{AreSpelled, IsWalked}

-- the files of a block, but for its range
pub record Files : Type 0 where
  pub index : List ℕ
  pub chunks : List ℕ
  pub tombstones : List ℕ

-- the checks, by what they look at
pub data Check : Type 0 where
  index_size : Check
  head_room : Check
  magic : Check
  version : Check
  contents_sum : Check
  contents_order : Check
  symbols_frame : Check
  symbols : Check
  entries : Check
  bodies : Check
  series_order : Check
  series_counts : Check
  chunks_head : Check
  each_chunk : Check
  sample_counts : Check
  deletions : Check
  known_series : Check

-- the table of contents stands at the end of an index, before its checksum
abbrev pub HasContents : List ℕ → Contents → Type 0
HasContents index t = drop (length index - 52) index ≡ checked (contents_text t)

-- a table of contents, in order, and the frame of the symbols
pub record HasFrame (index : List ℕ) (content : List ℕ) : Type 0 where
  pub start : take 5 index ≡ 0xBA ∷ 0xAA ∷ 0xD7 ∷ 0 ∷ 2 ∷ []
  pub t : Contents
  pub contents : HasContents index t
  pub placed : IsPlaced t (length index)
  pub stands : StandsAt index 5 t.series (frame content)

-- the entries are laid out so, a body stands in each, and after the symbols, up to where the series
-- end, each byte in no entry is 0
pub record HasBodies (index : List ℕ) (ss : List series.Series) : Type 0 where
  pub parts : Layout
  pub layout : IsLayout index parts
  pub bodies : List Body
  pub spelled : AreBodies parts.symbols parts.entries bodies
  pub gaps : AreZero index parts.symbols_end (series_end parts.contents) parts.entries
  pub series_are : ss ≡ series.series_of parts.symbols parts.entries bodies

-- samples stand in the chunks that a series names
abbrev pub HasSamples : List ℕ → series.Series → Type 0
HasSamples file s = (samples : List (ℤ × ℤ)) × AreSpelled file s.chunks samples

-- no more than 1,048,576
abbrev pub HasFewSamples : List ℕ → series.Series → Type 0
HasFewSamples file s = (samples : List (ℤ × ℤ)) × AreSpelled file s.chunks samples
    × (length samples ≤ 1048576)

-- what a check asks, of files for which those before it hold
abbrev pub Holds : Check → Files → Type 0
Holds index_size f = length f.index ≤ 0x4000_0000
Holds head_room f = 57 ≤ length f.index
Holds magic f = take 4 f.index ≡ 0xBA ∷ 0xAA ∷ 0xD7 ∷ 0 ∷ []
Holds version f = take 5 f.index ≡ 0xBA ∷ 0xAA ∷ 0xD7 ∷ 0 ∷ 2 ∷ []
Holds contents_sum f = (t : Contents) × HasContents f.index t
Holds contents_order f = (t : Contents) × HasContents f.index t × IsPlaced t (length f.index)
Holds symbols_frame f = (content : List ℕ) × HasFrame f.index content
Holds symbols f = (content : List ℕ) × (table : List (List ℕ)) × HasFrame f.index content
    × IsSymbolTable content table
Holds entries f = (x : Layout) × IsLayout f.index x
Holds bodies f = (ss : List series.Series) × HasBodies f.index ss
Holds series_order f = (ss : List series.Series) × HasBodies f.index ss × AreInOrder ss
Holds series_counts f = (ss : List series.Series) × IsIndex f.index ss
Holds chunks_head f = IsSegment f.chunks
Holds each_chunk f = (ss : List series.Series) × IsIndex f.index ss
    × AllByRecursion (HasSamples f.chunks) ss
Holds sample_counts f = (ss : List series.Series) × IsIndex f.index ss
    × AllByRecursion (HasFewSamples f.chunks) ss
Holds deletions f = (ds : List Deletion) × IsTombstones f.tombstones ds
Holds known_series f = (part : Part) × IsWalked f.index f.chunks f.tombstones part

-- what is answered where it fails; of chunks and deletions the refusal of the first that fails of
-- their own checks
abbrev pub Answers : Check → Files → WalkError → Type 0
Answers index_size f e = e ≡ Limit
Answers head_room f e = e ≡ TooShort
Answers magic f e = e ≡ Magic
Answers version f e = e ≡ Version
Answers contents_sum f e = e ≡ ContentsCrc
Answers contents_order f e = e ≡ ContentsOrder
Answers symbols_frame f e = e ≡ SymbolsCrc
Answers symbols f e = e ≡ Symbols
Answers entries f e = e ≡ SeriesCrc
Answers bodies f e = e ≡ Series
Answers series_order f e = e ≡ SeriesOrder
Answers series_counts f e = e ≡ Limit
Answers chunks_head f e = (c : ChunkError) × (opened f.chunks ≡ Err c) × (e ≡ of_chunk c)
Answers each_chunk f e = (ss : List series.Series) × (c : ChunkError) × IsIndex f.index ss
    × (each_check (series_check f.chunks) ss ≡ Err c) × (e ≡ of_chunk c)
Answers sample_counts f e = e ≡ Limit
Answers deletions f e = (d : TombstoneError) × (deletions_of f.tombstones ≡ Err d)
    × (e ≡ of_tombstone d)
Answers known_series f e = e ≡ UnknownSeries

-- the checks in their order, `I15`, `I1` to `I10`, `I15`, `C7`, `C1` and `C2`, `C3` to `C8`, `I15`,
-- `T1` to `T4`, `T5`
abbrev pub checks : List Check
checks =
    index_size ∷ head_room ∷ magic ∷ version ∷ contents_sum ∷ contents_order ∷ symbols_frame ∷
    symbols ∷ entries ∷ bodies ∷ series_order ∷ series_counts
    ∷ chunks_head ∷ each_chunk ∷ sample_counts ∷ deletions ∷ known_series ∷ []

-- the first of the checks that fails is answered so
abbrev pub FirstFailing : List Check → Files → WalkError → Type 0
FirstFailing [] f e = ⊥
FirstFailing (c ∷ cs) f e = ((Holds c f → ⊥) × Answers c f e) ⊎ (Holds c f × FirstFailing cs f e)

-- why files are refused: the first check that fails, or no memory
abbrev pub IsWalkError : Files → WalkError → Type 0
IsWalkError f Memory = Unit {0}
IsWalkError f e = FirstFailing checks f e
