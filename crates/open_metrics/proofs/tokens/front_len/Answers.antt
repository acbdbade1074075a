use Rattle.std.proofs.Common.{sym, ◌∙◌, arith}
use Rattle.open_metrics.proofs.Words.{word_goes, word_stops, word_ends}
use Rattle.open_metrics.proofs.tokens.front_len.Goals as goal

pub returns-then-not-goes_on-clause-is : goal.returns-then-not-goes_on-clause-is
returns-then-not-goes_on-clause-is c =
    let i = c.loop-c.c-index in
    let h = word_stops c.args.class c.args.bytes.now i (omega arith) (sym c.goes_on.ensures ∙
    c.if-not-goes_on.true) in
    omega (arith, h, c.loop-c.invariant.so_far)

pub loop-c-preserved : goal.loop-c-preserved
loop-c-preserved c =
    let i = c.loop-c.c-index in
    let h = word_goes c.args.class c.args.bytes.now i (omega arith) (sym c.goes_on.ensures ∙
    c.if-not-goes_on.false) in
    record { same = omega arith; so_far = omega (arith, h, c.loop-c.invariant.so_far) }

pub returns-clause-is : goal.returns-clause-is
returns-clause-is c =
    let h = word_ends c.args.class c.args.bytes.now c.loop-c.c-index (omega arith) in
    omega (arith, h, c.loop-c.invariant.so_far)
