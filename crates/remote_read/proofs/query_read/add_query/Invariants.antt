use Rattle.std.proofs.Common.{◌≡◌, ◌≤◌, ◌-◌, length}
use Rattle.protobuf_fields.specs.Reading.{message_at}
use Rattle.remote_read.specs.Format.{query_allows}
use Rattle.remote_read.specs.Reading.{query_seen, query_step}
use Rattle.remote_read.proofs.query_read.add_query.Given as goal

abbrev pub invariant-loop : goal.invariant-loop
invariant-loop l = record {
  short : length l.rest ≤ length l.bytes - l.counter;
  most : length l.rest ≤ length l.bytes;
  so_far : message_at query_allows query_step (length l.bytes - l.counter) (query_seen l.query) l.rest
      ≡ message_at query_allows query_step (length l.bytes) (query_seen l.fn.query) l.bytes;
}
