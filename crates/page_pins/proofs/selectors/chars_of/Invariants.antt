use Rattle.std.proofs.Common.{◌≡◌, ◌++◌, drop}
use Rattle.std.specs.List.{flat_map}
use Rattle.page_pins.specs.Selectors.{chars_in}
use Rattle.page_pins.proofs.selectors.chars_of.Given as goal

abbrev pub invariant-loop-piece : goal.invariant-loop-piece
invariant-loop-piece l =
    l.chars.items ++ flat_map chars_in (drop l.piece-index l.pieces) ≡ flat_map chars_in l.pieces
