use Rattle.std.proofs.Common.{take}
use Rattle.prometheus_block.specs.Rows.{AreRowsOf, ArePlaced, rows_kept}
use Rattle.prometheus_block.specs.Series.{IsHeld}
use Rattle.prometheus_block.proofs.rows.keep_all.Given as goal

abbrev pub invariant-loop-at : goal.invariant-loop-at
invariant-loop-at g l = record {
  held : IsHeld (g.S.ReadSegments.may_read l.fn.files) l.held;
  rows : AreRowsOf (g.S.ReadSegments.may_read l.fn.files) l.wanted
      (take l.at l.wanted.index.now.series) (rows_kept l.wanted.index.now.series l.all.items)
      l.initial.tally l.tally;
  placed : ArePlaced l.wanted.index.now.series l.all.items;
}
