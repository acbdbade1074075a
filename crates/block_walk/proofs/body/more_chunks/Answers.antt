use Rattle.std.proofs.lemmas.Result.{err_from_is_err_and}
use Rattle.block_walk.specs.IndexFile.Bodies.{chunk_at}
use Rattle.block_walk.proofs.IndexFile.Stepping.{goes_on, ends, is_done}
use Rattle.block_walk.proofs.body.more_chunks.Goals as goal

pub returns-in_err-chunk : goal.returns-in_err-chunk
returns-in_err-chunk c =
    let p = err_from_is_err_and c.from_residual.result c.from_residual.ensures.1 in
    rw (p.1, p.2)
    (ends chunk_at c.in_err-chunk.field-0.0 c.loop.chunks.items c.args.count c.loop.counter (
      c.loop.before,
      c.loop.rest.now,
    ) _ c.loop-test.true c.in_err-chunk.ensures.exact c.loop.invariant.so_far)

pub loop-preserved : goal.loop-preserved
loop-preserved c = record {
  times = c.in_ok-chunk.ensures.times;
  so_far =
      rw c.in_ok-push.ensures.items (goes_on chunk_at c.loop.chunks.items c.args.count
      c.loop.counter (c.loop.before, c.loop.rest.now) c.in_ok-chunk.chunk (
        c.in_ok-chunk.after.0,
        c.in_ok-chunk.after.1.now,
      ) _ c.loop-test.true c.in_ok-chunk.ensures.exact c.loop.invariant.so_far);
}

pub returns : goal.returns
returns c =
    is_done chunk_at c.loop.chunks.items c.args.count c.loop.counter
    (c.loop.before, c.loop.rest.now) _ c.loop-test.false c.loop.invariant.so_far
