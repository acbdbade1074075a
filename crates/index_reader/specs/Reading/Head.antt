-- The checks of the length of a file, of its first five bytes and of its table of contents.
use Rattle.std.specs.Prelude.{ℕ, List, length, Result, Ok, Err, Bool, ◌&&◌, nat_lt, nat_le, ◌==◌}
use Rattle.std.specs.Prelude.{if◌then◌else◌, ◌-◌, take, drop, slice_index, ◌||◌}
use Rattle.byteorder.specs.Endian.{big_number}
use Rattle.wire.specs.Checksum.{crc32c}
use Rattle.index_reader.specs.declared.error.IndexError.{IndexError}
use Rattle.index_reader.specs.declared.error.IndexError.TheVariants.{Limit, TooShort, Magic}
use Rattle.index_reader.specs.declared.error.IndexError.TheVariants.{Version, ContentsCrc}
use Rattle.index_reader.specs.declared.error.IndexError.TheVariants.{ContentsOrder}
use Rattle.index_reader.specs.declared.layout.TableOfContents.{TableOfContents}
use Rattle.wire.specs.Outcome.{◌>>=◌}

-- the six offsets
abbrev pub contents_at : List ℕ → TableOfContents
contents_at table = record {
  symbols = big_number 8 table;
  series = big_number 8 (drop 8 table);
  label_indices = big_number 8 (drop 16 table);
  label_offsets = big_number 8 (drop 24 table);
  postings = big_number 8 (drop 32 table);
  postings_offsets = big_number 8 (drop 40 table);
}

-- the offsets, where their checksum is right
unfoldable pub contents_of : List ℕ → Result TableOfContents IndexError
contents_of table =
    if big_number 4 (drop 48 table) == crc32c (take 48 table) then Ok (contents_at table)
    else Err ContentsCrc

-- the parts stand in their order, below the end
abbrev pub in_order : TableOfContents → ℕ → Bool
in_order t end =
    t.symbols == 5 && nat_lt 5 t.series && nat_le t.series t.postings
    && nat_le t.postings t.postings_offsets && nat_lt t.postings_offsets end
    && (t.label_indices == 0
    || (nat_le t.series t.label_indices && nat_le t.label_indices t.postings))
    && (t.label_offsets == 0
    || (nat_le t.postings t.label_offsets && nat_le t.label_offsets t.postings_offsets))

-- whether a file begins as an index does
abbrev pub has_magic : List ℕ → Bool
has_magic file =
    slice_index file 0 == 0xBA && slice_index file 1 == 0xAA
    && slice_index file 2 == 0xD7 && slice_index file 3 == 0x00

-- the checks of the length, the first five bytes and the table of contents
unfoldable pub head_of : List ℕ → Result TableOfContents IndexError
head_of file =
    if nat_lt 0x4000_0000 (length file) then Err Limit
    else if nat_lt (length file) 57 then Err TooShort
    else if has_magic file then (
    if slice_index file 4 == 2 then (contents_of (drop (length file - 52) file) >>= λ t.
    if in_order t (length file - 52) then Ok t else Err ContentsOrder)
    else Err Version)
    else Err Magic
