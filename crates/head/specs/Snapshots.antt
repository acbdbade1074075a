-- What callers see of a snapshot.
use Rattle.std.specs.Prelude.{map}
use Rattle.std.specs.Arc.{arc_value}
use Rattle.head.specs.declared.snapshot.Snapshot.TheInside.{Inside}
use Rattle.head.specs.Heads.{SnapshotParts}
use Rattle.head.specs.Shown.{series_of, copied_of}
use Rattle.head.specs.Blocks.{part_in}

abbrev pub parts_in : Inside → SnapshotParts
parts_in s = record {
  blocks = map part_in (arc_value s.blocks).items;
  head = series_of s.head;
  floor = s.floor;
  copied = copied_of s.head;
}
