use Rattle.std.proofs.Common.{arith}
use Rattle.remote_write.specs.Reading.{series_seen}
use Rattle.remote_rows.proofs.Adds.{row_added}
use Rattle.remote_rows.proofs.answer.put_rows.Goals as goal

pub loop-row-preserved : goal.loop-row-preserved
loop-row-preserved c =
    row_added c.args.names_alone c.args.rows.now c.loop-row.row-index c.row-item.result c.args.out.now.items c.loop-row.out.items
    c.put_series.new.out.items (series_seen c.fill.new.series)
    (omega arith) c.row-item.is c.loop-row.invariant c.in_ok-fill.ensures c.in_ok-put_series.ensures
