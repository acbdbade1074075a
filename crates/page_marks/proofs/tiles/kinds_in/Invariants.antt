use Rattle.std.proofs.Common.{◌≡◌, ◌≤◌}
use Rattle.page_marks.specs.Tiles.{kinds_below}
use Rattle.page_marks.proofs.tiles.kinds_in.Given as goal

abbrev pub invariant-loop-slot : goal.invariant-loop-slot
invariant-loop-slot l = (l.kinds ≡ kinds_below l.intervals l.slot) × (l.kinds ≤ l.slot)
