use Rattle.std.proofs.Common.{◌≡◌, ◌++◌, drop}
use Rattle.answers.specs.Joined.{joined}
use Rattle.answers.proofs.body_text.append_pieces.Given as goal

abbrev pub invariant-loop-piece : goal.invariant-loop-piece
invariant-loop-piece l =
    l.out.items ++ joined (drop l.piece-index l.pieces) ≡ l.fn.out.items ++ joined l.pieces
