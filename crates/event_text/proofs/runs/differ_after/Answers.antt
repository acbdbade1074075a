use Rattle.std.proofs.Common.{arith}
use Rattle.event_text.proofs.RunLaws.{rows_end, rows_go_on, rows_stop}
use Rattle.event_text.proofs.runs.differ_after.Goals as goal

pub returns-then-eq : goal.returns-then-eq
returns-then-eq c =
    let l = c.loop-row in
    rows_stop c.args.others.now l.row-index l.last.now c.row-item.result c.labels.result.now
    c.labels-in-loop-row.result.now _ (omega (arith, c.loop-row-test.true)) c.row-item.is c.labels.ensures
    c.labels-in-loop-row.ensures c.if-eq.ensures l.invariant

pub loop-row-preserved : goal.loop-row-preserved
loop-row-preserved c =
    let l = c.loop-row in
    rows_go_on c.args.others.now l.row-index l.last.now c.row-item.result c.labels.result.now
    c.labels-in-loop-row.result.now _ (omega (arith, c.loop-row-test.true)) c.row-item.is c.labels.ensures
    c.labels-in-loop-row.ensures c.if-eq.ensures l.invariant

pub returns : goal.returns
returns c =
    let l = c.loop-row in
    rows_end c.args.others.now l.row-index l.last.now _ (omega (arith, c.loop-row-test.false))
    l.invariant
