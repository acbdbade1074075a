use Rattle.std.proofs.Common.{◌≡◌, ◌++◌}
use Rattle.std.specs.Vec.Iter.{into_iter_items}
use Rattle.labels.specs.Parts.{rows_in}
use Rattle.block_joiner.proofs.runs.keep_rows.Given as goal

abbrev pub invariant-loop-row : goal.invariant-loop-row
invariant-loop-row l = record {
  made : l.rows.items ≡ rows_in l.yielded;
  rest : l.fn.listed.items ≡ l.yielded ++ into_iter_items l.row-iterator;
}
