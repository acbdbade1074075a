-- What was read, without where it lies in memory.
use Rattle.std.specs.Prelude.{ℕ, List, map}
use Rattle.std.specs.Borrow.{Bor}
use Rattle.block_walk.specs.declared.entries.Entry.{Entry}
use Rattle.block_walk.specs.declared.layout.Layout.{Layout}
use Rattle.block_walk.specs.IndexFile.Layout.{SeriesEntry}
use Rattle.block_walk.specs.IndexFile.Layout as layout

-- texts as their bytes
abbrev pub texts : List (Bor (List ℕ)) → List (List ℕ)
texts ss = map (λ s. s.now) ss

-- an entry
abbrev pub entry_seen : Entry → SeriesEntry
entry_seen e = record { offset = e.offset; body = e.body.now; end = e.end }

-- all entries
abbrev pub entries_seen : List Entry → List SeriesEntry
entries_seen es = map entry_seen es

-- all of it
abbrev pub seen : Layout → layout.Layout
seen o = record {
  contents = o.contents;
  symbols = texts o.symbols.items;
  symbols_end = o.symbols_end;
  entries = entries_seen o.entries.items;
}
