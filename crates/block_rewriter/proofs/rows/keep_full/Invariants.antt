use Rattle.std.proofs.Common.{◌≡◌, ◌++◌}
use Rattle.std.specs.Vec.Iter.{into_iter_items}
use Rattle.labels.specs.Parts.{rows_in}
use Rattle.block_rewriter.specs.Rows.{full_rows}
use Rattle.block_rewriter.proofs.rows.keep_full.Given as goal

abbrev pub invariant-loop-row : goal.invariant-loop-row
invariant-loop-row l = record {
  made : l.rows.items ≡ full_rows (rows_in l.yielded);
  rest : l.fn.listed.items ≡ l.yielded ++ into_iter_items l.row-iterator;
}
