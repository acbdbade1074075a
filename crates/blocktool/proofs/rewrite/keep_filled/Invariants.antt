use Rattle.std.proofs.Common.{◌≡◌, ◌++◌}
use Rattle.std.specs.Vec.Iter.{into_iter_items}
use Rattle.labels.specs.Parts.{rows_in}
use Rattle.blocktool.specs.Opening.{filled}
use Rattle.blocktool.proofs.rewrite.keep_filled.Given as goal

abbrev pub invariant-loop-row : goal.invariant-loop-row
invariant-loop-row l = record {
  made : l.rows.items ≡ filled (rows_in l.yielded);
  rest : l.fn.listed.items ≡ l.yielded ++ into_iter_items l.row-iterator;
}
