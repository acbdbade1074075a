-- All checks in their order: the first that fails, or what they read.
use Rattle.std.specs.List.{list_all}
use Rattle.std.specs.Prelude.{ℕ, ◌+◌, ◌<◌, List, length, get_or, Result, Ok, Err, Bool, map, nat_lt}
use Rattle.std.specs.Prelude.{nat_le, if◌then◌else◌, slice_range}
use Rattle.labels.specs.LabelSets.{IsLabelSet}
use Rattle.index_reader.specs.declared.error.IndexError.{IndexError}
use Rattle.index_reader.specs.declared.error.IndexError.TheVariants.{Limit, Series, SeriesOrder}
use Rattle.index_reader.specs.declared.error.IndexError.TheVariants.{SymbolsCrc}
use Rattle.index_reader.specs.declared.layout.TableOfContents.{TableOfContents}
use Rattle.index_reader.specs.Reading.Agreement.{Carrier, entry_references, carriers, agreement_of}
use Rattle.index_reader.specs.Reading.Entries.{gaps_zero, entries_from}
use Rattle.index_reader.specs.Reading.Flat.{body_of_entry, labels_before}
use Rattle.index_reader.specs.Reading.Frames.{frame_at}
use Rattle.index_reader.specs.Reading.Head.{head_of}
use Rattle.index_reader.specs.Indexes.{Indexed, IsConsistent, named, series_of}
use Rattle.index_reader.specs.Indexes as indexes
use Rattle.index_reader.specs.KeptIndex.{AreInTable, IsListing}
use Rattle.index_reader.specs.Layout.{rises, postings_end, series_end, rounded, Layout, TableEntry}
use Rattle.index_reader.specs.Layout.{Label, Body}
use Rattle.index_reader.specs.Reading.Postings.{lists_at}
use Rattle.index_reader.specs.References.{references_in, IsList}
use Rattle.index_reader.specs.Reading.Steps.{each}
use Rattle.wire.specs.Outcome.{◌>>=◌}
use Rattle.index_reader.specs.Reading.Symbols.{symbols_of}
use Rattle.index_reader.specs.Reading.Table.{table_at, table_content_at}

-- the checks up to those of the series entries
unfoldable pub layout_of : List ℕ → Result Layout IndexError
layout_of file = do
  t ← head_of file
  frame ← frame_at SymbolsCrc (slice_range file 5 t.series)
  symbols ← symbols_of frame.0
  entries ← entries_from (length file) file (series_end t) (rounded t.series)
  Ok (record {
    contents = t;
    symbols = symbols;
    symbols_end = length frame.0 + 13;
    entries = entries;
  })

-- the labels of each body
abbrev pub labels_of_each : List Body → List (List Label)
labels_of_each bodies = map (λ b. b.labels) bodies

-- each series with its labels
abbrev pub carriers_of : Layout → List Body → List Carrier
carriers_of p bodies = carriers (entry_references p.entries) (labels_of_each bodies)

-- the bodies of the entries, with nothing but zeros between them, and their label sets in order
unfoldable pub bodies_of : List ℕ → Layout → Result (List Body) IndexError
bodies_of file p = do
  bodies ← each (body_of_entry p.symbols) p.entries
  if gaps_zero file (series_end p.contents) p.symbols_end p.entries
      then (if rises labels_before (labels_of_each bodies) then Ok bodies else Err SeriesOrder)
      else Err Series

-- the entries of the table, and the bytes of the references of each
unfoldable pub postings_of : List ℕ → TableOfContents
    → Result (List TableEntry × List (List ℕ)) IndexError
postings_of file t = do
  content ← table_content_at file t
  table ← table_at t.postings (postings_end t) content
  lists ← lists_at file (postings_end t) table
  Ok (table, lists)

-- whether a series has at most 64 labels
abbrev pub is_small : List Label → Bool
is_small labels = nat_le (length labels) 64

-- what an index holds: its parts, the bodies of its entries, the pairs after the empty one, and
-- the bytes of all lists
pub record Read : Type 0 where
  pub parts : Layout
  pub bodies : List Body
  pub keys : List Label
  pub lists : List (List ℕ)

-- all checks in their order, and what they read
unfoldable pub read_of : List ℕ → Result Read IndexError
read_of file = do
  parts ← layout_of file
  bodies ← bodies_of file parts
  postings ← postings_of file parts.contents
  keys ← agreement_of parts.symbols postings.0 postings.1 (carriers_of parts bodies)
  if nat_lt 1048576 (length bodies) then Err Limit else (
      if list_all is_small (labels_of_each bodies)
      then Ok (record { parts = parts; bodies = bodies; keys = keys; lists = postings.1 })
      else Err Limit)

-- its series
abbrev pub series_in_file : Read → List indexes.Series
series_in_file r = series_of r.parts.symbols r.parts.entries r.bodies

-- what an index holds, as texts
abbrev pub indexed : Read → Indexed
indexed r = record {
  series = series_in_file r;
  pairs = named r.parts.symbols r.keys;
}

-- reading a whole index: the first check that fails, or what it holds
unfoldable pub indexed_of : List ℕ → Result Indexed IndexError
indexed_of file = do
  r ← read_of file
  Ok (indexed r)

-- what the checks leave
pub record IsSoundRead (r : Read) : Type 0 where
  pub listing : IsListing r.parts.symbols r.keys (series_in_file r) (map references_in r.lists)
  pub labelled : (k : ℕ) (d : Body) → k < length r.bodies
      → IsLabelSet (named r.parts.symbols (get_or r.bodies k d).labels)
  pub inside : (k : ℕ) (d : Body) → k < length r.bodies
      → AreInTable r.parts.symbols (get_or r.bodies k d).labels
  pub lists : (k : ℕ) (d : List ℕ) → k < length r.lists → IsList (get_or r.lists k d)
  pub consistent : IsConsistent (indexed r)
