use Rattle.std.proofs.Common.{arith}
use Rattle.std.proofs.lemmas.Option.{slice_get-get_or}
use Rattle.std.proofs.lemmas.Result.{err_from_is_err_and}
use Rattle.block.specs.Opening.{chunk_check}
use Rattle.block.specs.Samples.{chunk_samples}
use Rattle.block.specs.Sound.{IsReadChunk}
use Rattle.block.proofs.Steps.{each_next, each_stops, each_ends, facts_next, length_next}
use Rattle.block.proofs.checking.are_few.Goals as goal

pub returns-in_err-more-clause-exact : goal.returns-in_err-more-clause-exact
returns-in_err-more-clause-exact c =
    let l = c.loop-chunk in
    let p = err_from_is_err_and c.from_residual.result c.from_residual.ensures.1 in
    let at = slice_get-get_or c.args.list.now l.chunk-index _ c.loop-chunk-test.true in
    rw (p.1, p.2) (each_stops (chunk_check c.args.chunks.now) c.args.list.now l.chunk-index _
    c.in_err-more.field-0.0 _ at c.in_err-more.ensures.exact l.invariant.so_far)

pub loop-chunk-preserved : goal.loop-chunk-preserved
loop-chunk-preserved c =
    let l = c.loop-chunk in
    let counted = c.in_ok-more.ensures.counted in
    let at = slice_get-get_or c.args.list.now l.chunk-index _ c.loop-chunk-test.true in
    record {
      so_far =
          each_next (chunk_check c.args.chunks.now) c.args.list.now l.chunk-index _ _ at
          c.in_ok-more.ensures.exact l.invariant.so_far;
      held =
          facts_next (IsReadChunk c.args.chunks.now) c.args.list.now l.chunk-index _ at
          l.invariant.held counted.held;
      counted = omega (
        arith,
        c.saturating_add-count.ensures,
        counted.count_is,
        l.invariant.counted,
        length_next (chunk_samples c.args.chunks.now) c.args.list.now l.chunk-index _ at,
      );
    }

pub returns-clause-exact : goal.returns-clause-exact
returns-clause-exact c =
    each_ends (chunk_check c.args.chunks.now) c.args.list.now c.loop-chunk.chunk-index _
    c.loop-chunk-test.false c.loop-chunk.invariant.so_far
