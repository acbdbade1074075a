use Rattle.exposition.proofs.Orders.{row_more}
use Rattle.exposition.proofs.rows.put_rows.Goals as goal

pub loop-row-preserved : goal.loop-row-preserved
loop-row-preserved c =
    let l = c.loop-row in
    row_more c.args.rows.now l.row-index c.row-item.result l.runs c.put_row.new.runs
    c.loop-row-test.true c.row-item.is l.invariant c.in_ok-put_row.ensures
