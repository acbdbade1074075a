-- How the refusals are numbered.
use Rattle.std.specs.Prelude.{ℕ, List, codes}
use Rattle.index_reader.specs.declared.error.IndexError.{IndexError}
use Rattle.index_reader.specs.declared.error.IndexError.TheVariants.{Memory, TooShort, Magic}
use Rattle.index_reader.specs.declared.error.IndexError.TheVariants.{Version, ContentsCrc}
use Rattle.index_reader.specs.declared.error.IndexError.TheVariants.{ContentsOrder, SymbolsCrc}
use Rattle.index_reader.specs.declared.error.IndexError.TheVariants.{Symbols, SeriesCrc, Series}
use Rattle.index_reader.specs.declared.error.IndexError.TheVariants.{SeriesOrder, PostingsCrc}
use Rattle.index_reader.specs.declared.error.IndexError.TheVariants.{Postings, Offsets}
use Rattle.index_reader.specs.declared.error.IndexError.TheVariants.{PostingsDisagree, Limit}

-- the number of a refusal, as text
abbrev pub code_of : IndexError → List ℕ
code_of Memory = codes "memory"
code_of TooShort = codes "I1"
code_of Magic = codes "I2"
code_of Version = codes "I3"
code_of ContentsCrc = codes "I4"
code_of ContentsOrder = codes "I5"
code_of SymbolsCrc = codes "I6"
code_of Symbols = codes "I7"
code_of SeriesCrc = codes "I8"
code_of Series = codes "I9"
code_of SeriesOrder = codes "I10"
code_of PostingsCrc = codes "I11"
code_of Postings = codes "I12"
code_of Offsets = codes "I13"
code_of PostingsDisagree = codes "I14"
code_of Limit = codes "I15"

-- a refusal in a line, for people
abbrev pub text_of : IndexError → List ℕ
text_of Memory = codes "no memory"
text_of TooShort = codes "I1: the index has fewer than 57 bytes"
text_of Magic = codes "I2: the index does not begin with BA AA D7 00"
text_of Version = codes "I3: the version of the index is not 2"
text_of ContentsCrc = codes "I4: the checksum of the table of contents is wrong"
text_of ContentsOrder = codes "I5: the parts of the index are not in their order"
text_of SymbolsCrc = codes "I6: the symbol table is cut short, or its checksum is wrong"
text_of Symbols = codes "I7: the symbols are not well formed, or do not ascend"
text_of SeriesCrc = codes "I8: a series entry is cut short, or its checksum is wrong"
text_of Series = codes "I9: a series entry is not well formed, or a byte between entries is not 0"
text_of SeriesOrder = codes "I10: the label sets of the series do not ascend"
text_of PostingsCrc = codes "I11: a list of postings is cut short, or its checksum is wrong"
text_of Postings = codes "I12: a list of postings is not well formed, or does not ascend"
text_of Offsets = codes "I13: a table of offsets is not well formed, or its checksum is wrong"
text_of PostingsDisagree = codes "I14: the postings are not those of the series"
text_of Limit =
    codes "I15: the index is longer than 1 GiB, or has too many series, labels or samples"
