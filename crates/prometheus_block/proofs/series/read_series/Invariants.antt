use Rattle.std.proofs.Common.{take}
use Rattle.prometheus_block.specs.Series.{AreSamplesIn, IsHeld}
use Rattle.prometheus_block.proofs.series.read_series.Given as goal

abbrev pub invariant-loop-chunk : goal.invariant-loop-chunk
invariant-loop-chunk g l = record {
  held : IsHeld (g.S.ReadSegments.may_read l.fn.files) l.held;
  samples : AreSamplesIn (g.S.ReadSegments.may_read l.fn.files) l.times
      (take l.chunk-index l.chunks) l.samples.items;
}
