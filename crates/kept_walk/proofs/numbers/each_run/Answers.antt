use Rattle.std.proofs.lemmas.Result.{err_from_is_err_and}
use Rattle.kept_walk.specs.NumberedReading.{run_by}
use Rattle.kept_walk.proofs.LoopsBy.{fails, goes_on, is_done, starts}
use Rattle.kept_walk.proofs.numbers.each_run.Goals as goal

pub loop-counter-init : goal.loop-counter-init
loop-counter-init c =
    rw c.new-runs.ensures.items (starts run_by c.args.count (c.args.names.now, c.args.time.now)
    c.args.bytes.now)

pub returns-in_err-found : goal.returns-in_err-found
returns-in_err-found c =
    let p = err_from_is_err_and c.from_residual.result c.from_residual.ensures.1 in
    let l = c.loop-counter in
    rw (p.1, p.2) (fails run_by l.runs.items c.args.count l.counter (l.names, l.time) l.rest.now
    (c.args.names.now, c.args.time.now) c.args.bytes.now l.invariant c.in_err-found.field-0.0
    c.loop-counter-test.true c.in_err-found.ensures)

pub loop-counter-preserved : goal.loop-counter-preserved
loop-counter-preserved c =
    let l = c.loop-counter in
    rw c.in_ok-push.ensures.items (goes_on run_by l.runs.items c.args.count l.counter
    (l.names, l.time) l.rest.now (c.args.names.now, c.args.time.now) c.args.bytes.now l.invariant
    c.in_ok-found.found (c.run_of.new.names, c.run_of.new.time) c.in_ok-found.after.now
    c.loop-counter-test.true c.in_ok-found.ensures)

pub returns : goal.returns
returns c =
    let l = c.loop-counter in
    is_done run_by l.runs.items c.args.count l.counter (l.names, l.time) l.rest.now
    (c.args.names.now, c.args.time.now) c.args.bytes.now l.invariant c.loop-counter-test.false
