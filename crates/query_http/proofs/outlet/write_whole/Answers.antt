use Rattle.std.proofs.Common.{◌<◌, arith, length, ◌∙◌}
use Rattle.query_http.proofs.Written.{on_err, written_front, appends_kept, appends_none}
use Rattle.query_http.proofs.Written.{written_more}
use Rattle.query_http.proofs.outlet.write_whole.Goals as goal

pub returns-in_err-taken-clause-err : goal.returns-in_err-taken-clause-err
returns-in_err-taken-clause-err g c =
    let short : c.loop-done.done < length c.args.text.now = grind arith in
    on_err c.from_residual.result _
    (written_front _ _ c.loop-done.done c.args.text.now short
    (appends_kept _ _ _ _ c.loop-done.invariant.1 c.in_err-taken.ensures.bytes))

pub returns-then-taken-eq0-clause-err : goal.returns-then-taken-eq0-clause-err
returns-then-taken-eq0-clause-err g c =
    let before = c.loop-done.invariant.1 in
    let step = rw c.if-taken-eq0.true at c.in_ok-taken.ensures.bytes in
    let short : c.loop-done.done < length c.args.text.now = grind arith in
    written_front _ _ c.loop-done.done c.args.text.now short (appends_none _ _ _ _ before step)

pub loop-done-preserved : goal.loop-done-preserved
loop-done-preserved g c =
    let some : 0 < c.in_ok-taken.taken = omega (arith, c.if-taken-eq0.false) in
    let more = written_more _ _ _ c.loop-done.done c.in_ok-taken.taken c.args.text.now
    c.loop-done.invariant.0 c.in_ok-taken.ensures.bound
    c.loop-done.invariant.1 c.in_ok-taken.ensures.bytes in
    (more.0, more.1, c.in_ok-taken.ensures.ok some ∙ c.loop-done.invariant.2)
