-- What was read, without where it lies in memory.
use Rattle.std.specs.Borrow.{Bor}
use Rattle.std.specs.Prelude.{ℕ, List, map, string_bytes}
use Rattle.std.specs.declared.string.String.{String}
use Rattle.index_reader.specs.References.{references_in}
use Rattle.index_reader.specs.declared.series_entries.SeriesEntry.{SeriesEntry}
use Rattle.index_reader.specs.declared.offset_table.TableEntry.{TableEntry}
use Rattle.index_reader.specs.Layout as layout

-- texts and lists as their bytes
abbrev pub bytes_of : List (Bor (List ℕ)) → List (List ℕ)
bytes_of ss = map (λ s. s.now) ss

-- strings as their bytes
abbrev pub strings_of : {Z : Type 0} → List (String Z) → List (List ℕ)
strings_of xs = map (λ s. string_bytes s) xs

-- the references of each section
abbrev pub references_in_each : List (Bor (List ℕ)) → List (List ℕ)
references_in_each xs = map (λ x. references_in x.now) xs

-- an entry
abbrev pub entry_seen : SeriesEntry → layout.SeriesEntry
entry_seen e = record { offset = e.offset; body = e.body.now; end = e.end }

-- all entries
abbrev pub entries_seen : List SeriesEntry → List layout.SeriesEntry
entries_seen es = map entry_seen es

-- an entry of the table
abbrev pub table_entry_seen : TableEntry → layout.TableEntry
table_entry_seen l = record { name = l.name.now; value = l.value.now; offset = l.offset }

-- all entries of the table
abbrev pub table_seen : List TableEntry → List layout.TableEntry
table_seen ls = map table_entry_seen ls
