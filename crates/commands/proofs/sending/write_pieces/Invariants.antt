use Rattle.std.proofs.Common.{length}
use Rattle.answers.specs.Joined.{joined}
use Rattle.commands.proofs.Sendings.{IsWrittenTo}
use Rattle.commands.proofs.sending.write_pieces.Given as goal

abbrev pub invariant-loop-first : goal.invariant-loop-first
invariant-loop-first g l =
    IsWrittenTo (g.W.Write.contents l.fn.out) (g.W.Write.contents l.out) (joined l.pieces)
    (joined l.rest)

abbrev pub decreases-loop-first : goal.decreases-loop-first
decreases-loop-first g l = length l.rest
