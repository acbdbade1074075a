-- The series of an index that was checked, by symbols and in place.
use Rattle.std.specs.Prelude.{◌≡◌, ℕ, ◌<◌, ◌^◌, List, length, slice_range}
use Rattle.std.specs.List.{All}
use Rattle.labels.specs.LabelSets.{IsLabelSet}
use Rattle.block_walk.specs.declared.checked.Checked.{Checked}
use Rattle.block_walk.specs.IndexFile.Seen.{texts, seen}
use Rattle.block_walk.specs.IndexFile.Sound.{IsSoundLayout}
use Rattle.block_walk.specs.IndexFile.Grammar.{IsLayout}
use Rattle.block_walk.specs.IndexFile.Layout.{Label}
use Rattle.block_walk.specs.IndexFile.Flat.{bodies_in, AllIn}
use Rattle.block_walk.specs.IndexFile.Series.{Series, named}
use Rattle.block_walk.specs.IndexFile.Whole.{Read, series_in}

-- what was checked, without where it lies in memory
abbrev pub read_seen : Checked → Read
read_seen c = record {
  parts = seen c.layout;
  bodies = bodies_in c.bodies.labels.items c.bodies.chunks.items c.bodies.rows.items;
}

-- the series of what was checked
abbrev pub series_seen : Checked → List Series
series_seen c = series_in (read_seen c)

-- what was checked fits together
pub record IsHeldIn (file : List ℕ) (c : Checked) : Type 0 where
  pub parts : IsLayout file (seen c.layout)
  pub sound : IsSoundLayout file c.layout
  pub inside : AllIn c.bodies.labels.items c.bodies.chunks.items c.bodies.rows.items
  pub counted : length c.bodies.rows.items ≡ length c.layout.entries.items

-- labels are of these symbols
abbrev pub AreInTable : List (List ℕ) → List Label → Type 0
AreInTable symbols ls = All (λ l. (l.0 < length symbols) × (l.1 < length symbols)) ls

-- the labels of each body are of the symbols, and make a label set; references have 32 bits
pub record IsCheckedIndex (c : Checked) : Type 0 where
  pub inside : AllIn c.bodies.labels.items c.bodies.chunks.items c.bodies.rows.items
  pub counted : length c.bodies.rows.items ≡ length c.layout.entries.items
  pub small : All (λ e. e.offset < 2 ^ 32) c.layout.entries.items
  pub in_table : All (λ r. AreInTable (texts c.layout.symbols.items)
      (slice_range c.bodies.labels.items r.labels_start r.labels_end)) c.bodies.rows.items
  pub labelled : All
      (λ r. IsLabelSet (named (texts c.layout.symbols.items)
      (slice_range c.bodies.labels.items r.labels_start r.labels_end))) c.bodies.rows.items
