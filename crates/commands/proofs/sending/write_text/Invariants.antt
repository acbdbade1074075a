use Rattle.commands.proofs.Sendings.{IsWrittenTo}
use Rattle.commands.proofs.sending.write_text.Given as goal

abbrev pub invariant-loop : goal.invariant-loop
invariant-loop g l =
    IsWrittenTo (g.W.Write.contents l.fn.out) (g.W.Write.contents l.out) l.text l.rest
