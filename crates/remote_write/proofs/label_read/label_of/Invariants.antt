use Rattle.std.proofs.Common.{◌≡◌, ◌≤◌, ◌-◌, length}
use Rattle.protobuf_fields.specs.Reading.{message_at}
use Rattle.remote_write.specs.Format.{label_allows}
use Rattle.remote_write.specs.Reading.{label_at, label_seen, label_step}
use Rattle.remote_write.proofs.label_read.label_of.Given as goal

abbrev pub invariant-loop : goal.invariant-loop
invariant-loop l = record {
  short : length l.rest ≤ length l.bytes - l.counter;
  most : length l.rest ≤ length l.bytes;
  so_far : message_at label_allows label_step (length l.bytes - l.counter) (label_seen l.label) l.rest ≡ label_at l.bytes;
}
