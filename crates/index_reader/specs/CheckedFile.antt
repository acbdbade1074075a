-- What is kept of a file that was checked, without where it lies in memory.
use Rattle.std.specs.List.{All}
use Rattle.std.specs.Prelude.{◌≡◌, ℕ, ◌≤◌, ◌<◌, ◌^◌, List, length}
use Rattle.index_reader.specs.declared.checks.Checked.{Checked}
use Rattle.index_reader.specs.declared.bodies.Bodies.{Bodies}
use Rattle.index_reader.specs.declared.layout.Layout.{Layout}
use Rattle.index_reader.specs.declared.symbols.Symbols.{Symbols}
use Rattle.index_reader.specs.Layout.{IsPlaced, Body}
use Rattle.index_reader.specs.Reading.Agreement.{Carrier, carriers, entry_references}
use Rattle.index_reader.specs.Reading.Whole.{Read}
use Rattle.index_reader.specs.Reading.Flat.{bodies_in, label_sets_in, references_in_order}
use Rattle.index_reader.specs.Grammar.{IsLayout}
use Rattle.index_reader.specs.Seen.{bytes_of, entries_seen, strings_of}
use Rattle.index_reader.specs.Layout as layout

-- the table of contents, the symbols and the entries
abbrev pub layout_seen : Layout → layout.Layout
layout_seen o = record {
  contents = o.contents;
  symbols = bytes_of o.symbols.texts.items;
  symbols_end = o.symbols_end;
  entries = entries_seen o.entries.items;
}

-- symbols as their bytes
abbrev pub symbol_texts : Symbols → List (List ℕ)
symbol_texts s = strings_of s.texts.items

-- the bodies that stand in flat vectors
abbrev pub bodies_seen : Bodies → List Body
bodies_seen b = bodies_in b.labels.items b.chunks.items b.series.items

-- the reference of each series with its labels
abbrev pub carriers_seen : Bodies → List Carrier
carriers_seen b =
    carriers (references_in_order b.series.items) (label_sets_in b.labels.items b.series.items)

-- what the later checks may build on
pub record IsSoundLayout (file : List ℕ) (o : Layout) : Type 0 where
  pub placed : IsPlaced o.contents (length file)
  pub offsets : All (λ e. e.offset ≤ length file) o.entries.items
  pub small : All (λ e. e.offset < 2 ^ 32) o.entries.items

-- what was checked, as what reading gives
abbrev pub read_seen : Checked → Read
read_seen c = record {
  parts = layout_seen c.layout;
  bodies = bodies_seen c.bodies;
  keys = c.keys.pairs.items;
  lists = bytes_of c.lists.items;
}

-- what is kept of a file that was checked fits together
pub record IsHeldIn (file : List ℕ) (c : Checked) : Type 0 where
  pub parts : IsLayout file (layout_seen c.layout)
  pub sound : IsSoundLayout file c.layout
  pub referred : references_in_order c.bodies.series.items
      ≡ entry_references (entries_seen c.layout.entries.items)
  pub symbols : symbol_texts c.symbols ≡ bytes_of c.layout.symbols.texts.items
