use Rattle.std.proofs.Common.{◌≡◌, ◌≤◌, ◌-◌, length}
use Rattle.protobuf_fields.specs.Reading.{message_at}
use Rattle.remote_read.specs.Format.{hints_allows}
use Rattle.remote_read.specs.Reading.{hints_at, hints_step}
use Rattle.remote_read.proofs.hints_read.func_of.Given as goal

abbrev pub invariant-loop : goal.invariant-loop
invariant-loop l = record {
  short : length l.rest ≤ length l.bytes - l.counter;
  most : length l.rest ≤ length l.bytes;
  so_far : message_at hints_allows hints_step (length l.bytes - l.counter) l.named l.rest ≡ hints_at l.func l.bytes;
}
