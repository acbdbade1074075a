-- The bytes of an index that is written.
use Rattle.std.specs.Prelude.{◌≡◌, ℕ, ◌+◌, ◌-◌, ◌/◌, ◌<◌, List, Vec, [], ◌∷◌, ◌++◌, length, map}
use Rattle.std.specs.Prelude.{get_or, slice_set, slice_index_or, replicate, if◌then◌else◌}
use Rattle.std.proofs.Common.{Global}
use Rattle.std.specs.List.{flat_map}
use Rattle.byteorder.specs.Endian.{big_bytes}
use Rattle.labels.specs.Labels.{Labels}
use Rattle.labels.specs.Rows.{Row}
use Rattle.labels.specs.Parts.{carries}
use Rattle.index_reader.specs.declared.layout.TableOfContents.{TableOfContents}
use Rattle.index_reader.specs.Layout.{rounded, TableEntry}
use Rattle.wire.specs.Checksum.{checked}
use Rattle.index_reader.specs.Grammar.{frame, entry, symbol, contents_text}
use Rattle.index_reader.specs.Spelled.{list_text, table_text}
use Rattle.block_writer.specs.EntryBodies.{bodies_of}

-- zero bytes up to the next multiple of 16
abbrev pub padded : List ℕ → List ℕ
padded out = out ++ replicate (rounded (length out) - length out) 0

-- the content of the symbol table
abbrev pub symbols_text : List (List ℕ) → List ℕ
symbols_text symbols = big_bytes 4 (length symbols) ++ flat_map symbol symbols

-- magic and version, the symbol table, and zero bytes up to the place of the series
abbrev pub start_text : List (List ℕ) → List ℕ
start_text symbols = padded ((0xBA ∷ 0xAA ∷ 0xD7 ∷ 0 ∷ 2 ∷ []) ++ frame (symbols_text symbols))

-- entries after what stands there, each at a multiple of 16
unfoldable pub with_entries : List ℕ → List (List ℕ) → List ℕ
with_entries out [] = out
with_entries out (body ∷ bodies) = with_entries (padded out ++ entry body) bodies

-- the references of entries that stand after a place: each is the sixteenth part of where the
-- entry stands
unfoldable pub references_from : ℕ → List (List ℕ) → List ℕ
references_from at [] = []
references_from at (body ∷ bodies) =
    rounded at / 16 ∷ references_from (rounded at + length (entry body)) bodies

-- the references of the rows that carry a pair
unfoldable pub carriers : List ℕ → List ℕ → List Row → List ℕ → List ℕ
carriers name value [] references = []
carriers name value (row ∷ rows) [] = []
carriers name value (row ∷ rows) (r ∷ references) =
    if carries name value row.0 then r ∷ carriers name value rows references
    else carriers name value rows references

-- the references of the rows that carry each pair
abbrev pub lists_of : List (List ℕ × List ℕ) → List Row → List ℕ → List (List ℕ)
lists_of pairs rows references = map (λ p. carriers p.0 p.1 rows references) pairs

-- the references of each list
abbrev pub lists_in : List (Vec ℕ Global) → List (List ℕ)
lists_in lists = map (λ l. l.items) lists

-- a reference after the list at a place, and the other lists as they were
abbrev pub given_at : ℕ → ℕ → List (List ℕ) → List (List ℕ)
given_at at reference lists =
    slice_set lists at (slice_index_or lists at [] ++ reference ∷ [])

-- a reference after the list of each pair that its labels carry, and the other lists as they were
abbrev pub IsGivenTo : List (List ℕ × List ℕ) → Labels → ℕ → List (List ℕ) → List (List ℕ) → Type 0
IsGivenTo pairs labels r old new =
    (k : ℕ) → k < length pairs → get_or new k [] ≡ get_or old k [] ++ (if carries (get_or pairs k (
      [],
      [],
    )).0 (get_or pairs k ([], [])).1 labels then r ∷ [] else [])

-- the pairs that have a section: before the pairs of the series stands the empty one, of all series
abbrev pub listed_pairs : List (List ℕ × List ℕ) → List (List ℕ × List ℕ)
listed_pairs pairs = ([], []) ∷ pairs

-- a postings section
abbrev pub section_text : List ℕ → List ℕ
section_text references = frame (list_text references)

-- the entries of the offset table, for pairs whose sections stand one after another from a place on
unfoldable pub listed_from : ℕ → List (List ℕ × List ℕ) → List (List ℕ) → List TableEntry
listed_from at [] lists = []
listed_from at (p ∷ pairs) [] = []
listed_from at (p ∷ pairs) (references ∷ lists) =
    record { name = p.0; value = p.1; offset = at }
    ∷ listed_from (at + length (section_text references)) pairs lists

-- the table of contents of an index without label indices: where the series, the postings and the
-- offset table stand
abbrev pub contents_of : ℕ → ℕ → ℕ → TableOfContents
contents_of series postings offsets =
    record {
      symbols = 5;
      series = series;
      label_indices = 0;
      label_offsets = 0;
      postings = postings;
      postings_offsets = offsets;
    }

-- what stands after the series: the sections of the pairs in their order, the offset table, the
-- table of contents
unfoldable pub postings_text : ℕ → ℕ → List (List ℕ × List ℕ) → List (List ℕ) → List ℕ
postings_text series at pairs lists =
    flat_map section_text lists
    ++ (frame (table_text (listed_from at pairs lists))
    ++ checked (contents_text (contents_of series at (at + length (flat_map section_text lists)))))

-- the symbols, the series, the sections of the empty pair and of all pairs, and the tables
unfoldable pub index_text : List (List ℕ) → List (List ℕ × List ℕ) → List Row → List ℕ
index_text symbols pairs rows =
    with_entries (start_text symbols) (bodies_of symbols 8 rows)
    ++ postings_text (length (start_text symbols))
    (length (with_entries (start_text symbols) (bodies_of symbols 8 rows))) (listed_pairs pairs)
    (references_from (length (start_text symbols)) (bodies_of symbols 8 rows)
    ∷ lists_of pairs rows
    (references_from (length (start_text symbols)) (bodies_of symbols 8 rows)))
