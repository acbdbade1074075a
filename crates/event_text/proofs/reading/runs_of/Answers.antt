use Rattle.std.proofs.lemmas.Result.{err_from_is_err_and}
use Rattle.event_text.specs.Reading.{run_at, each_at}
use Rattle.event_text.proofs.Loops.{goes_on, ends, is_done}
use Rattle.event_text.proofs.reading.runs_of.Goals as goal

pub returns-in_err-found : goal.returns-in_err-found
returns-in_err-found c =
    let p = err_from_is_err_and c.from_residual.result c.from_residual.ensures.1 in
    let l = c.loop-counter in
    rw (p.1, p.2) (ends run_at c.in_err-found.field-0.0 l.runs.items c.args.count l.counter l.rest.now
    (each_at run_at c.args.count c.args.bytes.now) c.loop-counter-test.true c.in_err-found.ensures
    l.invariant)

pub loop-counter-preserved : goal.loop-counter-preserved
loop-counter-preserved c =
    let l = c.loop-counter in
    rw c.in_ok-push.ensures.items (goes_on run_at l.runs.items c.args.count l.counter l.rest.now
    c.in_ok-found.found c.in_ok-found.after.now (each_at run_at c.args.count c.args.bytes.now)
    c.loop-counter-test.true c.in_ok-found.ensures l.invariant)

pub returns : goal.returns
returns c =
    let l = c.loop-counter in
    is_done run_at l.runs.items c.args.count l.counter l.rest.now
    (each_at run_at c.args.count c.args.bytes.now) c.loop-counter-test.false l.invariant
