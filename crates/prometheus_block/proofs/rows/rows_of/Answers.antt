use Rattle.std.proofs.Common.{arith}
use Rattle.prometheus_block.proofs.RowAfter.{turned_placed, turned_rows, placed_next, placed_rest}
use Rattle.prometheus_block.proofs.RowAfter.{next_row, no_kept_left}
use Rattle.prometheus_block.proofs.rows.rows_of.Goals as goal

pub loop-series-init : goal.loop-series-init
loop-series-init c = record {
  rows =
      turned_rows c.args.index.now.series c.args.kept.items c.reverse.new.self.items _
      c.reverse.ensures.items c.in_ok-rows.ensures.items;
  placed =
      turned_placed c.args.index.now.series c.args.kept.items c.reverse.new.self.items
      c.reverse.ensures.items c.requires;
}

pub labels_at-requires : goal.labels_at-requires
labels_at-requires c =
    placed_next c.args.index.now.series c.loop-series.left.items c.pop.new.self.items
    c.in-Some.series c.in-Some.ensures.items c.loop-series.invariant.placed

pub loop-series-preserved : goal.loop-series-preserved
loop-series-preserved c =
    let l = c.loop-series in
    let series = c.args.index.now.series in
    let place =
    placed_next series l.left.items c.pop.new.self.items c.in-Some.series c.in-Some.ensures.items
    l.invariant.placed in
    record {
      rows =
          next_row series l.rows.items _ l.left.items c.pop.new.self.items c.in-Some.series
          c.new.result c.in_ok-labels.labels _ c.in-Some.ensures.items place
          c.in_ok-labels.ensures c.new.ensures c.in_ok-push.ensures.items l.invariant.rows;
      placed =
          placed_rest series l.left.items c.pop.new.self.items c.in-Some.series
          c.in-Some.ensures.items l.invariant.placed;
    }

pub returns : goal.returns
returns c =
    no_kept_left c.args.index.now.series c.loop-series.rows.items c.loop-series.left.items _
    (omega (arith, c.in_default.ensures.cases.0, c.loop-series.left.ok.0)) c.loop-series.invariant.rows
