use Rattle.std.proofs.Common.{sym, ◌∙◌, arith}
use Rattle.std.specs.Ordering.{int_cmp}
use Rattle.std.proofs.lemmas.Cmp.{int_cmp_total}
use Rattle.reply_reader.proofs.Neighbours.{goes_on, stops, is_sorted-last}
use Rattle.auditor.proofs.alone.is_rising.Goals as goal

pub returns-then-not-is_earlier : goal.returns-then-not-is_earlier
returns-then-not-is_earlier c =
    stops int_cmp int_cmp_total c.args.samples.now c.loop-i.i c.index-samples-i.result
    c.index-samples-i-in-loop-i.result _ (omega arith) (omega arith) c.index-samples-i.is
    c.index-samples-i-in-loop-i.is (sym c.is_earlier.ensures
    ∙ c.if-not-is_earlier.true) c.loop-i.invariant

pub loop-i-preserved : goal.loop-i-preserved
loop-i-preserved c =
    goes_on int_cmp int_cmp_total c.args.samples.now c.loop-i.i c.index-samples-i.result
    c.index-samples-i-in-loop-i.result _ (omega arith) (omega arith) c.index-samples-i.is
    c.index-samples-i-in-loop-i.is (sym c.is_earlier.ensures
    ∙ c.if-not-is_earlier.false) c.loop-i.invariant

pub returns : goal.returns
returns c =
    sym (is_sorted-last int_cmp c.args.samples.now c.loop-i.i (omega arith)) ∙ c.loop-i.invariant
