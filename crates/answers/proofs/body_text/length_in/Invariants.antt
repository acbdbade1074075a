use Rattle.std.proofs.Common.{◌≡◌, ◌+◌, drop, length}
use Rattle.answers.specs.Joined.{joined}
use Rattle.answers.proofs.body_text.length_in.Given as goal

abbrev pub invariant-loop-piece : goal.invariant-loop-piece
invariant-loop-piece l =
    l.length + length (joined (drop l.piece-index l.pieces))
    ≡ l.before + length (joined l.pieces)
