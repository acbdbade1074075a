use Rattle.std.proofs.Common.{◌≡◌, length}
use Rattle.page_pins.specs.Boxes.{name_box}
use Rattle.page_pins.proofs.boxes.name_box.Given as goal

abbrev pub invariant-loop-first : goal.invariant-loop-first
invariant-loop-first l = name_box l.attributes ≡ name_box l.rest

abbrev pub decreases-loop-first : goal.decreases-loop-first
decreases-loop-first l = length l.rest
