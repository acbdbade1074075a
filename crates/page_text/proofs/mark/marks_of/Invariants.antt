use Rattle.std.proofs.Common.{◌≡◌, ◌++◌, drop}
use Rattle.std.specs.List.{flat_map}
use Rattle.page_text.specs.Marks.{mark_in}
use Rattle.page_text.proofs.mark.marks_of.Given as goal

abbrev pub invariant-loop-piece : goal.invariant-loop-piece
invariant-loop-piece l =
    l.marks.items ++ flat_map mark_in (drop l.piece-index l.pieces) ≡ flat_map mark_in l.pieces
