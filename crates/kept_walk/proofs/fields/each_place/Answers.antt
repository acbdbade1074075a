use Rattle.std.proofs.lemmas.Result.{err_from_is_err_and}
use Rattle.kept_walk.specs.Reading.{place_at}
use Rattle.kept_walk.proofs.Loops.{goes_on, fails, is_done}
use Rattle.kept_walk.proofs.fields.each_place.Goals as goal

pub returns-in_err-place : goal.returns-in_err-place
returns-in_err-place c =
    let p = err_from_is_err_and c.from_residual.result c.from_residual.ensures.1 in
    let l = c.loop-counter in
    rw (p.1, p.2) (fails place_at (l.places.items) c.args.count l.counter l.rest.now c.args.bytes.now l.invariant
    c.in_err-place.field-0.0 c.loop-counter-test.true c.in_err-place.ensures)

pub loop-counter-preserved : goal.loop-counter-preserved
loop-counter-preserved c =
    let l = c.loop-counter in
    rw c.in_ok-push.ensures.items (goes_on place_at (l.places.items) c.args.count l.counter l.rest.now c.args.bytes.now l.invariant
    (c.in_ok-place.place) c.in_ok-place.after.now c.loop-counter-test.true c.in_ok-place.ensures)

pub returns : goal.returns
returns c =
    let l = c.loop-counter in
    is_done place_at (l.places.items) c.args.count l.counter l.rest.now c.args.bytes.now l.invariant
    c.loop-counter-test.false
