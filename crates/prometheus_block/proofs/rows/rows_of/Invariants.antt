use Rattle.std.proofs.Common.{◌≡◌, ◌++◌, reverse, vec_len}
use Rattle.prometheus_block.specs.Rows.{ArePlaced, rows_kept}
use Rattle.prometheus_block.proofs.rows.rows_of.Given as goal

abbrev pub invariant-loop-series : goal.invariant-loop-series
invariant-loop-series l = record {
  rows : l.rows.items ++ rows_kept l.index.series (reverse l.left.items)
      ≡ rows_kept l.index.series l.fn.kept.items;
  placed : ArePlaced l.index.series (reverse l.left.items);
}

abbrev pub decreases-loop-series : goal.decreases-loop-series
decreases-loop-series l = vec_len l.left
