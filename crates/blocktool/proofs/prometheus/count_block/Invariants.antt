use Rattle.prometheus_block.specs.Series.{IsHeld}
use Rattle.blocktool.proofs.prometheus.count_block.Given as goal

abbrev pub invariant-loop-at : goal.invariant-loop-at
invariant-loop-at g l = IsHeld (g.S.ReadSegments.may_read l.fn.source.segments) l.held
