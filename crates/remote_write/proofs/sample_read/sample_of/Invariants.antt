use Rattle.std.proofs.Common.{◌≡◌, ◌≤◌, ◌-◌, length}
use Rattle.protobuf_fields.specs.Reading.{message_at}
use Rattle.remote_write.specs.Format.{sample_allows}
use Rattle.remote_write.specs.Reading.{sample_at, sample_seen, sample_step}
use Rattle.remote_write.proofs.sample_read.sample_of.Given as goal

abbrev pub invariant-loop : goal.invariant-loop
invariant-loop l = record {
  short : length l.rest ≤ length l.bytes - l.counter;
  most : length l.rest ≤ length l.bytes;
  so_far : message_at sample_allows sample_step (length l.bytes - l.counter) (sample_seen l.sample) l.rest ≡ sample_at l.bytes;
}
