use Rattle.std.proofs.Common.{◌≡◌, ◌≤◌, ◌+◌, ◌-◌, length}
use Rattle.protobuf_fields.specs.Reading.{message_at}
use Rattle.remote_write.specs.Format.{series_allows}
use Rattle.remote_write.specs.Reading.{series_seen, series_step}
use Rattle.remote_write.proofs.series_read.add_series.Given as goal

abbrev pub invariant-loop : goal.invariant-loop
invariant-loop l = record {
  short : length l.rest ≤ length l.bytes - l.counter;
  most : length l.rest ≤ length l.bytes;
  count : l.series.histograms + length l.rest ≤ l.fn.series.histograms + length l.bytes;
  so_far : message_at series_allows series_step (length l.bytes - l.counter) (series_seen l.series) l.rest
      ≡ message_at series_allows series_step (length l.bytes) (series_seen l.fn.series) l.bytes;
}
