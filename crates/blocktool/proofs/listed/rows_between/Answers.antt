use Rattle.blocktool.proofs.Between.{between_more}
use Rattle.blocktool.proofs.listed.rows_between.Goals as goal

pub loop-row-preserved : goal.loop-row-preserved
loop-row-preserved c =
    let l = c.loop-row in
    between_more c.args.times.from c.args.times.to c.args.rows.now l.row-index c.row-item.result
    l.found.items c.push_row.new.rows.items c.loop-row-test.true c.row-item.is l.invariant
    c.in_ok-push_row.ensures
