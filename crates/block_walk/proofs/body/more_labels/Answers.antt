use Rattle.std.proofs.lemmas.Result.{err_from_is_err_and}
use Rattle.block_walk.specs.IndexFile.Seen.{texts}
use Rattle.block_walk.specs.IndexFile.Bodies.{label_at}
use Rattle.block_walk.proofs.IndexFile.Stepping.{goes_on, ends, is_done}
use Rattle.block_walk.proofs.body.more_labels.Goals as goal

pub returns-in_err-label : goal.returns-in_err-label
returns-in_err-label c =
    let p = err_from_is_err_and c.from_residual.result c.from_residual.ensures.1 in
    rw (p.1, p.2) (ends (label_at (texts c.args.symbols.now)) c.in_err-label.field-0.0
    c.loop.labels.items c.args.count c.loop.counter (c.loop.low, c.loop.rest.now) _ c.loop-test.true
    c.in_err-label.ensures c.loop.invariant)

pub loop-preserved : goal.loop-preserved
loop-preserved c =
    rw c.in_ok-push.ensures.items (goes_on (label_at (texts c.args.symbols.now)) c.loop.labels.items
    c.args.count c.loop.counter (c.loop.low, c.loop.rest.now) c.in_ok-label.label (
      c.in_ok-label.after.0,
      c.in_ok-label.after.1.now,
    ) _ c.loop-test.true c.in_ok-label.ensures c.loop.invariant)

pub returns : goal.returns
returns c =
    is_done (label_at (texts c.args.symbols.now)) c.loop.labels.items c.args.count c.loop.counter
    (c.loop.low, c.loop.rest.now) _ c.loop-test.false c.loop.invariant
