use Rattle.std.proofs.Common.{◌≡◌, ◌++◌}
use Rattle.page_marks.specs.Gathering.{gather}
use Rattle.page_marks.specs.Tiles.{kinds_below, count_below, tile_of}
use Rattle.page_marks.proofs.tiles.append_tiles.Given as goal

abbrev pub invariant-loop-slot : goal.invariant-loop-slot
invariant-loop-slot l = record {
  layers : l.stack.layers ≡ kinds_below l.intervals l.slot;
  below : l.stack.below ≡ count_below l.intervals l.slot;
  drawn : l.marks.items
      ≡ l.fn.marks.items
      ++ gather (tile_of l.frame.x l.frame.width l.frame.foot l.frame.height l.intervals) l.slot;
}
