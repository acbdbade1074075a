use Rattle.std.proofs.Common.{◌≡◌, ◌<◌, length, arith}
use Rattle.std.proofs.lemmas.Result.{err_from_is_err_and}
use Rattle.tombstones.proofs.Loops.{entry_shorter, goes_on, stops, is_done}
use Rattle.tombstones.proofs.file.deletions_in.Goals as goal

pub returns-in_err-deletion : goal.returns-in_err-deletion
returns-in_err-deletion c =
    let p = err_from_is_err_and c.from_residual.result c.from_residual.ensures.1 in
    let l = c.loop-rest in
    let some : 0 < length l.rest.now = grind arith in
    rw (p.1, p.2) (stops c.in_err-deletion.field-0.0 l.invariant.0 l.deletions.items l.rest.now _
    some l.invariant.1 c.in_err-deletion.ensures l.invariant.2)

pub loop-rest-smaller : goal.loop-rest-smaller
loop-rest-smaller c =
    entry_shorter c.loop-rest.rest.now (c.in_ok-deletion.deletion, c.in_ok-deletion.after.now)
    c.in_ok-deletion.ensures

pub loop-rest-preserved : goal.loop-rest-preserved
loop-rest-preserved c =
    let l = c.loop-rest in
    let some : 0 < length l.rest.now = grind arith in
    let shorter =
    entry_shorter l.rest.now (c.in_ok-deletion.deletion, c.in_ok-deletion.after.now)
    c.in_ok-deletion.ensures in
    let g =
    goes_on l.invariant.0 l.deletions.items l.rest.now c.in_ok-deletion.deletion
    c.in_ok-deletion.after.now _ some l.invariant.1 c.in_ok-deletion.ensures l.invariant.2 in
    (g.0, omega (arith, shorter, g.1, l.invariant.1), rw c.in_ok-push.ensures.items g.2)

pub returns : goal.returns
returns c =
    let l = c.loop-rest in
    let none : length l.rest.now ≡ 0 = grind arith in
    is_done l.invariant.0 l.deletions.items l.rest.now _ none l.invariant.2
