use Rattle.std.proofs.Common.{sym, ◌∙◌, arith}
use Rattle.decimal_text.proofs.Loops.{digits_goes, digits_stops, digits_ends}
use Rattle.decimal_text.proofs.number.digits_in_front.Goals as goal

pub returns-then-not-is_digit-clause-is : goal.returns-then-not-is_digit-clause-is
returns-then-not-is_digit-clause-is c =
    let i = c.loop-c.c-index in
    let h = digits_stops c.args.text.now i (omega arith) (sym c.is_digit.ensures ∙ c.if-not-is_digit.true) in
    omega (arith, h, c.loop-c.invariant.so_far)

pub loop-c-preserved : goal.loop-c-preserved
loop-c-preserved c =
    let i = c.loop-c.c-index in
    let h = digits_goes c.args.text.now i (omega arith) (sym c.is_digit.ensures ∙ c.if-not-is_digit.false) in
    record { same = omega arith; so_far = omega (arith, h, c.loop-c.invariant.so_far) }

pub returns-clause-is : goal.returns-clause-is
returns-clause-is c =
    let h = digits_ends c.args.text.now c.loop-c.c-index (omega arith) in
    omega (arith, h, c.loop-c.invariant.so_far)
