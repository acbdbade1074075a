use Rattle.prometheus_block.specs.Series.{IsHeld}
use Rattle.blocktool.proofs.prometheus.count_series.Given as goal

abbrev pub invariant-loop-chunk : goal.invariant-loop-chunk
invariant-loop-chunk g l = IsHeld (g.S.ReadSegments.may_read l.fn.source.segments) l.held
