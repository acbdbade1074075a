use Rattle.std.proofs.Common.{◌≡◌, ◌++◌, drop}
use Rattle.std.specs.List.{flat_map}
use Rattle.page_text.specs.Plain.{plain_piece}
use Rattle.page_text.proofs.terminal.print_plain.Given as goal

abbrev pub invariant-loop-piece : goal.invariant-loop-piece
invariant-loop-piece l =
    l.out.items ++ flat_map plain_piece (drop l.piece-index l.pieces)
    ≡ l.fn.out.items ++ flat_map plain_piece l.pieces
