use Rattle.prometheus_block.proofs.Chained.{one_more_chunk}
use Rattle.prometheus_block.proofs.series.read_series.Goals as goal

pub loop-chunk-preserved : goal.loop-chunk-preserved
loop-chunk-preserved g c =
    let l = c.loop-chunk in
    record {
      held = c.in_ok-push_chunk.ensures.held;
      samples = one_more_chunk _ c.args.times c.args.chunks.now l.chunk-index _ _ _
          c.loop-chunk-test.true l.invariant.samples c.in_ok-push_chunk.ensures.found;
    }
