use Rattle.std.proofs.Common.{◌≡◌, ◌≤◌, List, length}
use Rattle.wire.specs.Spelling.{IsBytes}
use Rattle.remote_write.specs.Format.{SeriesValue}
use Rattle.remote_write.specs.Reading.{no_series, request_from, series_seen}
use Rattle.remote_write.proofs.request.next_series.Given as goal

abbrev pub invariant-loop-rest : goal.invariant-loop-rest
invariant-loop-rest l = record {
  most : length l.rest ≤ length l.bytes;
  fits : IsBytes l.rest;
  none : series_seen l.series ≡ no_series;
  so_far : (front : List SeriesValue) → request_from front l.bytes ≡ request_from front l.rest;
}

abbrev pub decreases-loop-rest : goal.decreases-loop-rest
decreases-loop-rest l = length l.rest
