use Rattle.std.proofs.Common.{sym, ◌∙◌, arith}
use Rattle.block.proofs.Passing.{any_ended}
use Rattle.block.proofs.Wanting.{has_end, end_passed}
use Rattle.block.proofs.samples.has_wanted_end.Goals as goal

pub loop-chunk-preserved : goal.loop-chunk-preserved
loop-chunk-preserved c =
    let w = c.args.wanted.now in
    end_passed w.tombstones.now w.reference w.times.from w.times.to c.args.series.now
    c.loop-chunk.chunk-index _ c.has_end.result (omega arith) c.has_end.ensures c.if-has_end.false
    ∙ c.loop-chunk.invariant

pub returns : goal.returns
returns c =
    let w = c.args.wanted.now in
    sym (any_ended (has_end w.tombstones.now w.reference w.times.from w.times.to) c.args.series.now
    c.loop-chunk.chunk-index (omega arith))
    ∙ c.loop-chunk.invariant
