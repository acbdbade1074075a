-- What a written index holds, in the words of those who read it.
use Rattle.std.specs.Prelude.{ℕ, ◌+◌, List, [], ◌∷◌, length, map}
use Rattle.std.specs.List.{flat_map}
use Rattle.labels.specs.Rows.{Row}
use Rattle.index_reader.specs.declared.layout.TableOfContents.{TableOfContents}
use Rattle.index_reader.specs.Layout.{SeriesEntry, Layout, rounded, Body, TableEntry}
use Rattle.index_reader.specs.Grammar.{frame, entry}
use Rattle.index_reader.specs.Indexes.{Series, Indexed}
use Rattle.block_writer.specs.EntryBodies.{numbers_of, chunks_of, bodies_of}
use Rattle.block_writer.specs.IndexText.{symbols_text, start_text, with_entries, references_from}
use Rattle.block_writer.specs.IndexText.{lists_of, section_text, listed_from, contents_of}
use Rattle.block_writer.specs.Writing.{series_text}

-- where entries stand behind a place
unfoldable pub places_from : ℕ → List (List ℕ) → List SeriesEntry
places_from at [] = []
places_from at (body ∷ bodies) =
    record { offset = rounded at; body = body; end = rounded at + length (entry body) }
    ∷ places_from (rounded at + length (entry body)) bodies

-- what the entries of rows say, whose chunks stand one after another from a place on
unfoldable pub entries_of : List (List ℕ) → ℕ → List Row → List Body
entries_of symbols at [] = []
entries_of symbols at (row ∷ rows) =
    record { labels = map (numbers_of symbols) row.0; chunks = chunks_of at row.1 }
    ∷ entries_of symbols (at + length (series_text row.1)) rows

-- the series of rows, under these references, whose chunks stand one after another from a place on
unfoldable pub series_from : ℕ → List ℕ → List Row → List Series
series_from at references [] = []
series_from at [] (row ∷ rows) = []
series_from at (r ∷ references) (row ∷ rows) =
    record { reference = r; labels = row.0; chunks = chunks_of at row.1 }
    ∷ series_from (at + length (series_text row.1)) references rows

-- the references of the rows in an index of these symbols
abbrev pub references_in : List (List ℕ) → List Row → List ℕ
references_in symbols rows =
    references_from (length (start_text symbols)) (bodies_of symbols 8 rows)

-- what the index holds: the rows as series, and the pairs
abbrev pub indexed_from : List (List ℕ) → List (List ℕ × List ℕ) → List Row → Indexed
indexed_from symbols pairs rows =
    record { series = series_from 8 (references_in symbols rows) rows; pairs = pairs }

-- what stands before the postings
abbrev pub front_text : List (List ℕ) → List Row → List ℕ
front_text symbols rows = with_entries (start_text symbols) (bodies_of symbols 8 rows)

-- the references of the empty pair, and of each pair
abbrev pub all_lists : List (List ℕ) → List (List ℕ × List ℕ) → List Row → List (List ℕ)
all_lists symbols pairs rows =
    references_in symbols rows ∷ lists_of pairs rows (references_in symbols rows)

-- the entries of the offset table
abbrev pub table_of : List (List ℕ) → List (List ℕ × List ℕ) → List Row → List TableEntry
table_of symbols pairs rows =
    listed_from (length (front_text symbols rows)) (([], []) ∷ pairs) (all_lists symbols pairs rows)

-- the table of contents
abbrev pub contents_in : List (List ℕ) → List (List ℕ × List ℕ) → List Row → TableOfContents
contents_in symbols pairs rows =
    contents_of (length (start_text symbols)) (length (front_text symbols rows))
    (length (front_text symbols rows)
    + length (flat_map section_text (all_lists symbols pairs rows)))

-- the parts of the index
abbrev pub parts_in : List (List ℕ) → List (List ℕ × List ℕ) → List Row → Layout
parts_in symbols pairs rows = record {
  contents = contents_in symbols pairs rows;
  symbols = symbols;
  symbols_end = 5 + length (frame (symbols_text symbols));
  entries = places_from (length (start_text symbols)) (bodies_of symbols 8 rows);
}
