use Rattle.std.proofs.Common.{◌≡◌, length}
use Rattle.page_pins.specs.Boxes.{has_box}
use Rattle.page_pins.proofs.boxes.has_box.Given as goal

abbrev pub invariant-loop-first : goal.invariant-loop-first
invariant-loop-first l = has_box l.pieces ≡ has_box l.rest

abbrev pub decreases-loop-first : goal.decreases-loop-first
decreases-loop-first l = length l.rest
