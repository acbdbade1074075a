use Rattle.std.proofs.Common.{◌≡◌, length}
use Rattle.page_pins.specs.Boxes.{has_say}
use Rattle.page_pins.proofs.boxes.has_say.Given as goal

abbrev pub invariant-loop-later : goal.invariant-loop-later
invariant-loop-later l = has_say l.text ≡ has_say l.rest

abbrev pub decreases-loop-later : goal.decreases-loop-later
decreases-loop-later l = length l.rest
