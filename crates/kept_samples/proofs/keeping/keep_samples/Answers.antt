use Rattle.std.proofs.lemmas.Result.{err_from_is_err_and}
use Rattle.kept_samples.proofs.Fates.{keeps_next, keeps_none, one_next, first_refusal}
use Rattle.kept_samples.proofs.keeping.keep_samples.Goals as goal

pub loop-float-init : goal.loop-float-init
loop-float-init c = keeps_none c.args.asked.now _ _

pub loop-float-preserved : goal.loop-float-preserved
loop-float-preserved c =
    let l = c.loop-float in
    let e = c.in_ok-keep_one.ensures in
    keeps_next c.args.asked.now _ _ _ c.fate.result _ _ _ _ _ _ l.invariant c.fate.ensures
    e.not_refused e.kept e.told
    (one_next c.args.floats.now l.float-index _ c.loop-float-test.true c.float-item.is)

pub returns-in_err-keep_one-clause-err : goal.returns-in_err-keep_one-clause-err
returns-in_err-keep_one-clause-err c =
    let l = c.loop-float in
    let p = err_from_is_err_and c.from_residual.result c.from_residual.ensures.1 in
    rw (p.1, p.2) (first_refusal c.args.asked.now c.args.floats.now l.float-index _ c.fate.result
    _ _ _ _ _ c.loop-float-test.true c.float-item.is l.invariant c.fate.ensures
    c.in_err-keep_one.ensures.err)
