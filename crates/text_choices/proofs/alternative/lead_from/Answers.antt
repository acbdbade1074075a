use Rattle.std.proofs.Common.{◌∙◌, arith, sym}
use Rattle.text_choices.proofs.Front.{lead_goes, lead_short, lead_stops}
use Rattle.text_choices.proofs.alternative.lead_from.Goals as goal

pub returns-then-not-takes : goal.returns-then-not-takes
returns-then-not-takes c =
    let l = c.loop-i in
    lead_stops l.i c.args.atoms.now c.args.value.now _ _ l.invariant
    (omega (arith, c.loop-i-test.true, c.min-end.ensures))
    (omega (arith, c.loop-i-test.true, c.min-end.ensures)) (sym c.takes.ensures ∙ c.if-not-takes.true)

pub loop-i-preserved : goal.loop-i-preserved
loop-i-preserved c =
    let l = c.loop-i in
    lead_goes l.i c.args.atoms.now c.args.value.now _ _ l.invariant
    (omega (arith, c.loop-i-test.true, c.min-end.ensures))
    (omega (arith, c.loop-i-test.true, c.min-end.ensures)) (sym c.takes.ensures ∙ c.if-not-takes.false)

pub returns : goal.returns
returns c =
    let short = lead_short c.args.atoms.now c.args.value.now in
    omega (arith, c.loop-i.invariant, c.loop-i-test.false, c.min-end.ensures, short.0, short.1)
