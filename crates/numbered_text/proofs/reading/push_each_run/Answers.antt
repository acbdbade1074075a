use Rattle.std.proofs.lemmas.Result.{err_from_is_err_and}
use Rattle.numbered_text.specs.Each.{each_at, with_front}
use Rattle.numbered_text.specs.Reading.{run_at}
use Rattle.numbered_text.proofs.Loops.{goes_on, ends, is_done}
use Rattle.numbered_text.proofs.reading.push_each_run.Goals as goal

pub returns-in_err-after : goal.returns-in_err-after
returns-in_err-after c =
    let p = err_from_is_err_and c.from_residual.result c.from_residual.ensures.1 in
    let l = c.loop-counter in
    rw (p.1, p.2) (ends run_at c.in_err-after.field-0.0 l.out.items c.args.count l.counter
    (l.names, l.time) l.rest.now
    (with_front c.args.out.now.items (each_at run_at c.args.count (c.args.names.now, c.args.time.now) c.args.bytes.now))
    c.loop-counter-test.true c.in_err-after.ensures l.invariant)

pub loop-counter-preserved : goal.loop-counter-preserved
loop-counter-preserved c =
    let l = c.loop-counter in
    goes_on run_at l.out.items c.args.count l.counter (l.names, l.time) (c.push_run.new.names, c.push_run.new.time) l.rest.now
    c.push_run.new.out.items c.in_ok-after.after.now
    (with_front c.args.out.now.items (each_at run_at c.args.count (c.args.names.now, c.args.time.now) c.args.bytes.now))
    c.loop-counter-test.true c.in_ok-after.ensures l.invariant

pub returns : goal.returns
returns c =
    let l = c.loop-counter in
    is_done run_at l.out.items c.args.count l.counter (l.names, l.time) l.rest.now
    (with_front c.args.out.now.items (each_at run_at c.args.count (c.args.names.now, c.args.time.now) c.args.bytes.now))
    c.loop-counter-test.false l.invariant
