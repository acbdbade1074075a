use Rattle.std.proofs.Common.{arith}
use Rattle.prometheus_block.proofs.RowAfter.{one_more_row}
use Rattle.prometheus_block.proofs.rows.keep_all.Goals as goal

pub loop-at-preserved : goal.loop-at-preserved
loop-at-preserved g c =
    let l = c.loop-at in
    record {
      held = c.in_ok-keep_series.ensures.held;
      rows = one_more_row _ c.args.wanted.now c.args.wanted.now.index.now.series l.at _ _ _ _ _
          (omega (arith, c.loop-at-test.true, c.len-at-end.ensures)) l.invariant.rows
          c.in_ok-keep_series.ensures.found;
      placed = c.in_ok-keep_series.ensures.placed l.invariant.placed;
    }
