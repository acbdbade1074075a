use Rattle.std.proofs.Common.{◌≡◌, ◌++◌, drop}
use Rattle.std.specs.List.{flat_map}
use Rattle.page_text.specs.Marks.{value_in}
use Rattle.page_text.proofs.read_back.values_of.Given as goal

abbrev pub invariant-loop-piece : goal.invariant-loop-piece
invariant-loop-piece l =
    l.values.items ++ flat_map value_in (drop l.piece-index l.pieces) ≡ flat_map value_in l.pieces
