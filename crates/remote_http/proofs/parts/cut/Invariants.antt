use Rattle.std.proofs.Common.{◌≡◌, ◌++◌, length}
use Rattle.std.specs.Vec.Iter.{into_iter_items, into_iter_len}
use Rattle.head.specs.BatchRows.{batch_of_rows}
use Rattle.remote_http.specs.Filling.{AreBatches, filled, HasRoom}
use Rattle.remote_http.proofs.parts.cut.Given as goal

abbrev pub invariant-loop-row : goal.invariant-loop-row
invariant-loop-row l = record {
  room : HasRoom l.open.items l.room;
  whole : filled l.parts.items l.open.items ≡ batch_of_rows l.yielded;
  batches : AreBatches l.parts.items;
  left : into_iter_len l.row-iterator ≡ length (into_iter_items l.row-iterator);
  rest : l.fn.rows.items ≡ l.yielded ++ into_iter_items l.row-iterator;
}
