use Rattle.std.proofs.Common.{◌≡◌, ◌+◌, arith}
use Rattle.std.proofs.lemmas.Result.{err_from_is_err_and}
use Rattle.index_reader.specs.Seen.{bytes_of}
use Rattle.index_reader.specs.Reading.Bodies.{label_at}
use Rattle.index_reader.proofs.Stepping.{goes_on, ends, is_done}
use Rattle.index_reader.proofs.body.more_labels.Goals as goal

pub returns-in_err-label : goal.returns-in_err-label
returns-in_err-label c =
    let p = err_from_is_err_and c.from_residual.result c.from_residual.ensures.1 in
    rw (p.1, p.2)
    (ends (label_at (bytes_of c.args.symbols.now.texts.items)) c.in_err-label.field-0.0
    c.loop.labels.items c.args.count c.loop.counter (c.loop.low, c.loop.cut) _ c.loop-test.true
    c.in_err-label.ensures c.loop.invariant)

pub loop-preserved : goal.loop-preserved
loop-preserved c =
    let next : c.from-low.result ≡ c.in_ok-label.label.0 = omega arith in
    rw (c.in_ok-push.ensures.items, next)
    (goes_on (label_at (bytes_of c.args.symbols.now.texts.items)) c.loop.labels.items c.args.count
    c.loop.counter (c.loop.low, c.loop.cut) c.in_ok-label.label (
      c.in_ok-label.label.0 + 1,
      c.read_label.new.cut,
    ) _ c.loop-test.true c.in_ok-label.ensures c.loop.invariant)

pub returns : goal.returns
returns c =
    is_done (label_at (bytes_of c.args.symbols.now.texts.items)) c.loop.labels.items
    c.args.count c.loop.counter (c.loop.low, c.loop.cut) _ c.loop-test.false c.loop.invariant
