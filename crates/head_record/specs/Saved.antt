-- What is saved of a snapshot, and the snapshot that a start makes of it.
use Rattle.std.specs.Prelude.{ℕ, ℤ, List, map}
use Rattle.block_folder.specs.declared.values.Values.{Values}
use Rattle.head.specs.Heads.{BlockPart, HeadSeries, SnapshotParts}

-- where a block lies: the number of its folder, and that of the edition of its deletions
abbrev pub Place : Type 0
Place = ℕ × ℕ

-- what the values mean, a floor, where the blocks lie, and the series of the head in order of
-- creation
pub record Saved : Type 0 where
  pub values : Values
  pub floor : ℤ
  pub places : List Place
  pub head : List HeadSeries

-- what is saved of a snapshot, whose values mean this and whose blocks lie at these places
abbrev pub save : Values → SnapshotParts → List Place → Saved
save values s places =
    record { values = values; floor = s.floor; places = places; head = s.head }

-- the snapshot that a start makes of it, by the block that lies at each place
abbrev pub start : (Place → BlockPart) → Saved → SnapshotParts
start at saved = record {
  blocks = map at saved.places;
  head = saved.head;
  floor = saved.floor;
  copied = 0;
}
