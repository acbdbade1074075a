use Rattle.std.proofs.Common.{arith}
use Rattle.event_text.proofs.RunLaws.{filled_end, filled_go_on, filled_stop}
use Rattle.event_text.proofs.runs.are_filled.Goals as goal

pub returns-then-is_empty : goal.returns-then-is_empty
returns-then-is_empty c =
    let l = c.loop-row in
    filled_stop c.args.rows.now l.row-index c.row-item.result c.samples.result.now
    c.is_empty.result _ (omega (arith, c.loop-row-test.true)) c.row-item.is c.samples.ensures
    c.is_empty.ensures c.if-is_empty.true l.invariant

pub loop-row-preserved : goal.loop-row-preserved
loop-row-preserved c =
    let l = c.loop-row in
    filled_go_on c.args.rows.now l.row-index c.row-item.result c.samples.result.now
    c.is_empty.result _ (omega (arith, c.loop-row-test.true)) c.row-item.is c.samples.ensures
    c.is_empty.ensures c.if-is_empty.false l.invariant

pub returns : goal.returns
returns c =
    let l = c.loop-row in
    filled_end c.args.rows.now l.row-index _ (omega (arith, c.loop-row-test.false)) l.invariant
