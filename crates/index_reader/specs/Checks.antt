-- The checks of an index, one by one in their order, and the first that fails.
use Rattle.std.specs.Prelude.{◌≡◌, ◌⊎◌, ℕ, ◌+◌, ◌-◌, ◌<◌, ◌≤◌, ◌^◌, List, [], ◌∷◌, length, get_or}
use Rattle.std.specs.Prelude.{take, drop}
use Rattle.std.specs.List.{AllByRecursion}
use Rattle.std.specs.declared.cmp.Ordering.TheVariants.{Less}
use Rattle.labels.specs.Labels.{labels_cmp}
use Rattle.wire.specs.Checksum.{checked}
use Rattle.index_reader.specs.declared.error.IndexError.{IndexError}
use Rattle.index_reader.specs.declared.error.IndexError.TheVariants.{Memory, Limit, TooShort}
use Rattle.index_reader.specs.declared.error.IndexError.TheVariants.{Magic, Version, ContentsCrc}
use Rattle.index_reader.specs.declared.error.IndexError.TheVariants.{ContentsOrder, SymbolsCrc}
use Rattle.index_reader.specs.declared.error.IndexError.TheVariants.{Symbols, SeriesCrc, Series}
use Rattle.index_reader.specs.declared.error.IndexError.TheVariants.{SeriesOrder, Offsets}
use Rattle.index_reader.specs.declared.error.IndexError.TheVariants.{PostingsCrc, Postings}
use Rattle.index_reader.specs.declared.error.IndexError.TheVariants.{PostingsDisagree}
use Rattle.index_reader.specs.declared.layout.TableOfContents.{TableOfContents}
use Rattle.index_reader.specs.Layout.{IsPlaced, Layout, Body, TableEntry, series_end, postings_end}
use Rattle.index_reader.specs.Grammar.{contents_text, frame, StandsAt, IsSymbolTable, IsLayout}
use Rattle.index_reader.specs.Indexes.{label_sets, series_of}
use Rattle.index_reader.specs.Indexes as indexes
use Rattle.index_reader.specs.Spelled.{AreBodies, AreZero, IsTable, AreSections, pairs_of}
use Rattle.index_reader.specs.Stated.{Stated, Agrees, AreFew}

-- the checks, by what they look at
pub data Check : Type 0 where
  file_size : Check
  head_room : Check
  magic : Check
  version : Check
  contents_sum : Check
  contents_order : Check
  symbols_frame : Check
  symbols : Check
  entries : Check
  bodies : Check
  series_order : Check
  offset_table : Check
  list_frames : Check
  lists : Check
  agreement : Check
  counts : Check

-- the table of contents stands at the end of the file, before its checksum
abbrev pub HasContents : List ℕ → TableOfContents → Type 0
HasContents file t = drop (length file - 52) file ≡ checked (contents_text t)

-- a table of contents, in order, and the frame of the symbols
pub record HasSymbols (file content : List ℕ) : Type 0 where
  pub start : take 5 file ≡ 0xBA ∷ 0xAA ∷ 0xD7 ∷ 0 ∷ 2 ∷ []
  pub t : TableOfContents
  pub contents : HasContents file t
  pub placed : IsPlaced t (length file)
  pub stands : StandsAt file 5 t.series (frame content)

-- the entries are laid out so, a body stands in each, and after the symbols, up to where the series
-- end, each byte in no entry is 0
pub record HasBodies (file : List ℕ) (parts : Layout) (ss : List indexes.Series) : Type 0 where
  pub layout : IsLayout file parts
  pub bodies : List Body
  pub spelled : AreBodies parts.symbols parts.entries bodies
  pub gaps : AreZero file parts.symbols_end (series_end parts.contents) parts.entries
  pub series_are : ss ≡ series_of parts.symbols parts.entries bodies

-- label sets strictly ascend
abbrev pub AreInOrder : List indexes.Series → Type 0
AreInOrder ss = (k : ℕ) → k + 1 < length ss → labels_cmp (get_or (label_sets ss) k [])
    (get_or (label_sets ss) (k + 1) []) ≡ Less

-- the postings offset table
pub record HasTable (file : List ℕ) (parts : Layout) (table : List TableEntry) : Type 0 where
  pub layout : IsLayout file parts
  pub tabled : IsTable file parts.contents table

-- a frame stands where an entry of the table says, below this place
abbrev pub HasFrame : List ℕ → ℕ → TableEntry → Type 0
HasFrame file end l = (content : List ℕ) × StandsAt file l.offset end (frame content)

-- references of four bytes
abbrev pub AreSmall : List ℕ → Type 0
AreSmall refs = AllByRecursion (λ r. r < 2 ^ 32) refs

-- the list of references of each entry of the table
pub record HasLists (file : List ℕ) (parts : Layout) (table : List TableEntry)
    (lists : List (List ℕ)) : Type 0 where
  pub table_is : HasTable file parts table
  pub stand : AreSections file (postings_end parts.contents) table lists
  pub small : AllByRecursion AreSmall lists

-- what the file states of its series and of its postings
pub record States (file : List ℕ) (s : Stated) : Type 0 where
  pub parts : Layout
  pub bodies_are : HasBodies file parts s.series
  pub table : List TableEntry
  pub pairs_are : s.pairs ≡ pairs_of table
  pub lists_are : HasLists file parts table s.lists

-- what a check asks, of a file for which those before it hold
abbrev pub Holds : Check → List ℕ → Type 0
Holds file_size file = length file ≤ 0x4000_0000
Holds head_room file = 57 ≤ length file
Holds magic file = take 4 file ≡ 0xBA ∷ 0xAA ∷ 0xD7 ∷ 0 ∷ []
Holds version file = take 5 file ≡ 0xBA ∷ 0xAA ∷ 0xD7 ∷ 0 ∷ 2 ∷ []
Holds contents_sum file = (t : TableOfContents) × HasContents file t
Holds contents_order file = (t : TableOfContents) × HasContents file t × IsPlaced t (length file)
Holds symbols_frame file = (content : List ℕ) × HasSymbols file content
Holds symbols file = (content : List ℕ) × (table : List (List ℕ)) × HasSymbols file content
    × IsSymbolTable content table
Holds entries file = (parts : Layout) × IsLayout file parts
Holds bodies file = (parts : Layout) × (ss : List indexes.Series) × HasBodies file parts ss
Holds series_order file = (parts : Layout) × (ss : List indexes.Series) × HasBodies file parts ss
    × AreInOrder ss
Holds offset_table file = (parts : Layout) × (table : List TableEntry) × HasTable file parts table
Holds list_frames file = (parts : Layout) × (table : List TableEntry) × HasTable file parts table
    × AllByRecursion (HasFrame file (postings_end parts.contents)) table
Holds lists file = (parts : Layout) × (table : List TableEntry) × (refs : List (List ℕ))
    × HasLists file parts table refs
Holds agreement file = (s : Stated) × States file s × Agrees s
Holds counts file = (s : Stated) × States file s × AreFew s.series

-- what is answered where it fails
abbrev pub refusal_of : Check → IndexError
refusal_of file_size = Limit
refusal_of head_room = TooShort
refusal_of magic = Magic
refusal_of version = Version
refusal_of contents_sum = ContentsCrc
refusal_of contents_order = ContentsOrder
refusal_of symbols_frame = SymbolsCrc
refusal_of symbols = Symbols
refusal_of entries = SeriesCrc
refusal_of bodies = Series
refusal_of series_order = SeriesOrder
refusal_of offset_table = Offsets
refusal_of list_frames = PostingsCrc
refusal_of lists = Postings
refusal_of agreement = PostingsDisagree
refusal_of counts = Limit

-- the checks in their order: `I15`, `I1` to `I10`, `I13`, `I11`, `I12`, `I14`, `I15`
abbrev pub checks : List Check
checks =
    file_size ∷ head_room ∷ magic ∷ version ∷ contents_sum ∷ contents_order ∷ symbols_frame ∷
    symbols ∷ entries ∷ bodies ∷ series_order ∷ offset_table ∷ list_frames ∷ lists ∷ agreement ∷
    counts ∷ []

-- the first of the checks that fails is answered so
abbrev pub FirstFailing : List Check → List ℕ → IndexError → Type 0
FirstFailing [] file e = ⊥
FirstFailing (c ∷ cs) file e =
    ((Holds c file → ⊥) × (e ≡ refusal_of c)) ⊎ (Holds c file × FirstFailing cs file e)

-- why a file is refused: the first check that fails, or no memory
abbrev pub IsRefused : List ℕ → IndexError → Type 0
IsRefused file Memory = Unit {0}
IsRefused file e = FirstFailing checks file e
