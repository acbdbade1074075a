use Rattle.std.proofs.Common.{◌≡◌, ◌++◌, ◌*◌, take}
use Rattle.packed_chunks.specs.Packed.{samples_in}
use Rattle.packed_chunks.proofs.RowLaws.{line_at}
use Rattle.packed_chunks.proofs.samples.push_samples.Given as goal

abbrev pub invariant-loop : goal.invariant-loop
invariant-loop l = record {
  found : l.found.items ≡ l.fn.found.items ++ take l.counter (samples_in l.form l.rows);
  times : l.times ≡ line_at l.form.first_time l.form.time_step l.counter;
  values : l.values ≡ line_at l.form.first_value l.form.value_step l.counter;
  place : l.place ≡ l.counter * l.form.width;
}
