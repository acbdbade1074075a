use Rattle.std.proofs.Common.{arith}
use Rattle.text_choices.proofs.Front.{share_more}
use Rattle.text_choices.proofs.alternative.shared.Goals as goal

pub loop-i-preserved : goal.loop-i-preserved
loop-i-preserved c =
    let l = c.loop-i in
    share_more l.i c.args.before.now c.args.atoms.now _ _ l.invariant
    (omega (arith, c.loop-i-test.true, c.min-end.ensures))
    (omega (arith, c.loop-i-test.true, c.min-end.ensures)) c.if-not-is.ensures
