use Rattle.std.proofs.Common.{sym, ◌∙◌, arith}
use Rattle.labels.specs.Labels.{labels_cmp}
use Rattle.labels.specs.Laws.{labels_total}
use Rattle.reply_reader.proofs.Neighbours.{goes_on, stops, is_sorted-last}
use Rattle.auditor.proofs.merged.are_in_order.Goals as goal

pub returns-then-not-is_before : goal.returns-then-not-is_before
returns-then-not-is_before c =
    stops labels_cmp labels_total c.args.rows.now c.loop-i.i c.index-rows-i.result
    c.index-rows-i-in-loop-i.result _ (omega arith) (omega arith) c.index-rows-i.is
    c.index-rows-i-in-loop-i.is (sym c.is_before.ensures
    ∙ c.if-not-is_before.true) c.loop-i.invariant

pub loop-i-preserved : goal.loop-i-preserved
loop-i-preserved c =
    goes_on labels_cmp labels_total c.args.rows.now c.loop-i.i c.index-rows-i.result
    c.index-rows-i-in-loop-i.result _ (omega arith) (omega arith) c.index-rows-i.is
    c.index-rows-i-in-loop-i.is (sym c.is_before.ensures
    ∙ c.if-not-is_before.false) c.loop-i.invariant

pub returns : goal.returns
returns c =
    sym (is_sorted-last labels_cmp c.args.rows.now c.loop-i.i (omega arith)) ∙ c.loop-i.invariant
