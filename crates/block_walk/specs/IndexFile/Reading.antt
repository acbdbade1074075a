-- Reading an index from its bytes. Each check has its refusal, and the first that fails is
-- answered.
use Rattle.std.specs.Prelude.{ℕ, zero, suc, ◌+◌, ◌-◌, List, [], ◌∷◌, length, take, drop, Result, Ok}
use Rattle.std.specs.Prelude.{Err, Bool, slice_index, slice_range, nat_lt, nat_le, ◌==◌, ◌&&◌, ◌||◌}
use Rattle.std.specs.Prelude.{if◌then◌else◌}
use Rattle.std.specs.Str.{is_utf8}
use Rattle.byteorder.specs.Endian.{big_number}
use Rattle.wire.specs.Reading.{number_at, bytes_at, uvarint_at}
use Rattle.wire.specs.Checksum.{crc32c}
use Rattle.wire.specs.Outcome.{◌>>=◌, or_refused}
use Rattle.block_walk.specs.declared.contents.Contents.{Contents}
use Rattle.block_walk.specs.declared.error.WalkError.{WalkError}
use Rattle.block_walk.specs.declared.error.WalkError.TheVariants.{Limit, TooShort, Magic, Version}
use Rattle.block_walk.specs.declared.error.WalkError.TheVariants.{ContentsCrc, ContentsOrder}
use Rattle.block_walk.specs.declared.error.WalkError.TheVariants.{SymbolsCrc, Symbols, SeriesCrc}
use Rattle.block_walk.specs.IndexFile.Layout.{SeriesEntry, Layout, series_end, ascending, rounded}

-- ---- the table of contents

-- the six offsets
abbrev pub contents_at : List ℕ → Contents
contents_at table = record {
  symbols = big_number 8 table;
  series = big_number 8 (drop 8 table);
  label_indices = big_number 8 (drop 16 table);
  label_offsets = big_number 8 (drop 24 table);
  postings = big_number 8 (drop 32 table);
  postings_offsets = big_number 8 (drop 40 table);
}

-- the offsets, where their checksum is right
unfoldable pub table_of : List ℕ → Result Contents WalkError
table_of table =
    if big_number 4 (drop 48 table) == crc32c (take 48 table) then Ok (contents_at table)
    else Err ContentsCrc

-- the parts stand in their order, below the end
abbrev pub in_order : Contents → ℕ → Bool
in_order t end =
    t.symbols == 5 && nat_lt 5 t.series && nat_le t.series t.postings
    && nat_le t.postings t.postings_offsets && nat_lt t.postings_offsets end
    && (t.label_indices == 0
    || (nat_le t.series t.label_indices && nat_le t.label_indices t.postings))
    && (t.label_offsets == 0
    || (nat_le t.postings t.label_offsets && nat_le t.label_offsets t.postings_offsets))

-- whether a file begins as an index does
abbrev pub has_magic : List ℕ → Bool
has_magic file = slice_index file 0 == 0xBA && slice_index file 1 == 0xAA
    && slice_index file 2 == 0xD7 && slice_index file 3 == 0x00

-- the checks of the length, the first five bytes and the table of contents
unfoldable pub head_of : List ℕ → Result Contents WalkError
head_of file =
    if nat_lt 0x4000_0000 (length file) then Err Limit
    else if nat_lt (length file) 57 then Err TooShort
    else if has_magic file then (
    if slice_index file 4 == 2 then (table_of (drop (length file - 52) file) >>= λ t.
    if in_order t (length file - 52) then Ok t else Err ContentsOrder)
    else Err Version)
    else Err Magic

-- ---- content with its checksum after it

-- content of this length and its checksum, and what stands after them
abbrev pub checked_at : WalkError → ℕ × List ℕ → Result (List ℕ × List ℕ) WalkError
checked_at e len = do
  content ← or_refused e (bytes_at len.0 len.1)
  sum ← or_refused e (number_at 4 content.1)
  if sum.0 == crc32c content.0 then Ok (content.0, sum.1) else Err e

-- four bytes of length, the content, its checksum
unfoldable pub frame_at : WalkError → List ℕ → Result (List ℕ × List ℕ) WalkError
frame_at e bytes = or_refused e (number_at 4 bytes) >>= checked_at e

-- ---- symbols

-- a text with its length before it
unfoldable pub symbol_at : List ℕ → Result (List ℕ × List ℕ) WalkError
symbol_at bytes = do
  len ← or_refused Symbols (uvarint_at bytes)
  text ← or_refused Symbols (bytes_at len.0 len.1)
  if is_utf8 text.0 then Ok text else Err Symbols

-- this many texts
unfoldable pub symbols_from : ℕ → List ℕ → Result (List (List ℕ) × List ℕ) WalkError
symbols_from zero bytes = Ok ([], bytes)
symbols_from (suc n) bytes = do
  first ← symbol_at bytes
  others ← symbols_from n first.1
  Ok (first.0 ∷ others.0, others.1)

-- the content of the symbol table
unfoldable pub symbols_of : List ℕ → Result (List (List ℕ)) WalkError
symbols_of content = do
  n ← or_refused Symbols (number_at 4 content)
  found ← symbols_from n.0 n.1
  if length found.1 == 0 && ascending found.0 then Ok found.0 else Err Symbols

-- ---- the walk over the series entries

-- a series entry: its body, and what stands after it
unfoldable pub entry_at : List ℕ → Result (List ℕ × List ℕ) WalkError
entry_at bytes = or_refused SeriesCrc (uvarint_at bytes) >>= checked_at SeriesCrc

-- the entries from a place on, below the end: no more than this many
unfoldable pub entries_from : ℕ → List ℕ → ℕ → ℕ → Result (List SeriesEntry) WalkError
entries_from zero file end at = Ok []
entries_from (suc n) file end at = if nat_lt at end then (do
  entry ← entry_at (slice_range file at end)
  others ← entries_from n file end (rounded (end - length entry.1))
  Ok (record { offset = at; body = entry.0; end = end - length entry.1 } ∷ others))
    else Ok []

-- ---- the whole

-- the checks up to those of the series entries
unfoldable pub layout_of : List ℕ → Result Layout WalkError
layout_of file = do
  t ← head_of file
  frame ← frame_at SymbolsCrc (slice_range file 5 t.series)
  symbols ← symbols_of frame.0
  entries ← entries_from (length file) file (series_end t) (rounded t.series)
  Ok (record {
    contents = t;
    symbols = symbols;
    symbols_end = length frame.0 + 13;
    entries = entries;
  })
