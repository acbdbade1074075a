use Rattle.std.proofs.Common.{sym, ◌∙◌, arith}
use Rattle.open_metrics.specs.declared.tokens.Class.TheVariants.{Word}
use Rattle.open_metrics.proofs.Words.{word_goes, word_stops, word_ends}
use Rattle.exposition.proofs.values.word_len.Goals as goal

pub returns-then-not-is_in_word-clause-is : goal.returns-then-not-is_in_word-clause-is
returns-then-not-is_in_word-clause-is c =
    let i = c.loop-c.c-index in
    let h = word_stops Word c.args.bytes.now i (omega arith) (sym c.is_in_word.ensures ∙
    c.if-not-is_in_word.true) in
    omega (arith, h, c.loop-c.invariant.so_far)

pub loop-c-preserved : goal.loop-c-preserved
loop-c-preserved c =
    let i = c.loop-c.c-index in
    let h = word_goes Word c.args.bytes.now i (omega arith) (sym c.is_in_word.ensures ∙
    c.if-not-is_in_word.false) in
    record { same = omega arith; so_far = omega (arith, h, c.loop-c.invariant.so_far) }

pub returns-clause-is : goal.returns-clause-is
returns-clause-is c =
    let h = word_ends Word c.args.bytes.now c.loop-c.c-index (omega arith) in
    omega (arith, h, c.loop-c.invariant.so_far)
