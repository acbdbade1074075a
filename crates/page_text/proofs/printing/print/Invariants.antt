use Rattle.std.proofs.Common.{◌≡◌, ◌++◌, drop}
use Rattle.std.specs.List.{flat_map}
use Rattle.page_text.specs.Printing.{piece_text}
use Rattle.page_text.proofs.printing.print.Given as goal

abbrev pub invariant-loop-piece : goal.invariant-loop-piece
invariant-loop-piece l =
    l.out.items ++ flat_map piece_text (drop l.piece-index l.pieces)
    ≡ l.fn.out.items ++ flat_map piece_text l.pieces
