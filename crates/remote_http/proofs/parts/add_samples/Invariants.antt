use Rattle.std.proofs.Common.{◌≡◌, ◌++◌, length}
use Rattle.std.specs.Prelude.{IsTrue}
use Rattle.head.specs.BatchRows.{pairs_with}
use Rattle.remote_http.specs.Cutting.{are_timed}
use Rattle.remote_http.specs.Filling.{AreBatches, filled, HasRoom}
use Rattle.remote_http.proofs.parts.add_samples.Given as goal

abbrev pub invariant-loop-samples : goal.invariant-loop-samples
invariant-loop-samples l = record {
  room : HasRoom l.rows.items l.room;
  timed : IsTrue (are_timed (pairs_with l.fn.labels l.samples.items));
  whole : filled l.parts.items l.rows.items ++ pairs_with l.fn.labels l.samples.items
      ≡ filled l.fn.parts.items l.fn.rows.items ++ pairs_with l.fn.labels l.fn.samples.items;
  batches : AreBatches l.fn.parts.items → AreBatches l.parts.items;
}

abbrev pub decreases-loop-samples : goal.decreases-loop-samples
decreases-loop-samples l = length l.samples.items
