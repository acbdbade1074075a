-- How the refusals of the walk are numbered.
use Rattle.std.specs.Prelude.{ℕ, List, codes}
use Rattle.chunk_reader.specs.Codes as chunk
use Rattle.tombstones.specs.Codes as tombstone
use Rattle.block_walk.specs.declared.error.WalkError.{WalkError}
use Rattle.block_walk.specs.declared.error.WalkError.TheVariants.{Memory, TooShort, Magic}
use Rattle.block_walk.specs.declared.error.WalkError.TheVariants.{Version, ContentsCrc}
use Rattle.block_walk.specs.declared.error.WalkError.TheVariants.{ContentsOrder, SymbolsCrc}
use Rattle.block_walk.specs.declared.error.WalkError.TheVariants.{Symbols, SeriesCrc, Series}
use Rattle.block_walk.specs.declared.error.WalkError.TheVariants.{SeriesOrder, Limit, Chunks}
use Rattle.block_walk.specs.declared.error.WalkError.TheVariants.{Tombstones, UnknownSeries}

-- the number of a refusal, as text
abbrev pub code_of : WalkError → List ℕ
code_of Memory = codes "memory"
code_of TooShort = codes "I1"
code_of Magic = codes "I2"
code_of Version = codes "I3"
code_of ContentsCrc = codes "I4"
code_of ContentsOrder = codes "I5"
code_of SymbolsCrc = codes "I6"
code_of Symbols = codes "I7"
code_of SeriesCrc = codes "I8"
code_of Series = codes "I9"
code_of SeriesOrder = codes "I10"
code_of Limit = codes "I15"
code_of (Chunks e) = chunk.code_of e
code_of (Tombstones e) = tombstone.code_of e
code_of UnknownSeries = codes "T5"

-- a refusal in a line, for people
abbrev pub text_of : WalkError → List ℕ
text_of Memory = codes "no memory"
text_of TooShort = codes "I1: the index has fewer than 57 bytes"
text_of Magic = codes "I2: the index does not begin with BA AA D7 00"
text_of Version = codes "I3: the version of the index is not 2"
text_of ContentsCrc = codes "I4: the checksum of the table of contents is wrong"
text_of ContentsOrder = codes "I5: the parts of the index are not in their order"
text_of SymbolsCrc = codes "I6: the symbol table is cut short, or its checksum is wrong"
text_of Symbols = codes "I7: the symbols are not well formed, or do not ascend"
text_of SeriesCrc = codes "I8: a series entry is cut short, or its checksum is wrong"
text_of Series = codes "I9: a series entry is not well formed, or a byte between entries is not 0"
text_of SeriesOrder = codes "I10: the label sets of the series do not ascend"
text_of Limit =
    codes "I15: the index is longer than 1 GiB, or has too many series, labels or samples"
text_of (Chunks e) = chunk.text_of e
text_of (Tombstones e) = tombstone.text_of e
text_of UnknownSeries = codes "T5: a deletion is of an unknown series"
