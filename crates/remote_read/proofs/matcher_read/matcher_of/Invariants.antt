use Rattle.std.proofs.Common.{◌≡◌, ◌≤◌, ◌-◌, length}
use Rattle.protobuf_fields.specs.Reading.{message_at}
use Rattle.remote_read.specs.Format.{matcher_allows}
use Rattle.remote_read.specs.Reading.{matcher_at, matcher_seen, matcher_step}
use Rattle.remote_read.proofs.matcher_read.matcher_of.Given as goal

abbrev pub invariant-loop : goal.invariant-loop
invariant-loop l = record {
  short : length l.rest ≤ length l.bytes - l.counter;
  most : length l.rest ≤ length l.bytes;
  so_far : message_at matcher_allows matcher_step (length l.bytes - l.counter) (matcher_seen l.matcher) l.rest ≡ matcher_at l.bytes;
}
