use Rattle.std.proofs.Common.{◌≡◌, ◌≤◌, ◌-◌, length, map}
use Rattle.protobuf_fields.specs.Reading.{message_at}
use Rattle.remote_read.specs.Format.{request_allows}
use Rattle.remote_read.specs.Reading.{query_seen, request_step, request_at}
use Rattle.remote_read.proofs.request.all_queries.Given as goal

abbrev pub invariant-loop : goal.invariant-loop
invariant-loop l = record {
  short : length l.rest ≤ length l.bytes - l.counter;
  most : length l.rest ≤ length l.bytes;
  so_far : message_at request_allows request_step (length l.bytes - l.counter) (map query_seen l.all.items) l.rest ≡ request_at l.bytes;
}
