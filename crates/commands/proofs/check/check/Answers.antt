use Rattle.std.proofs.lemmas.Result.{err_from_is_err_and}
use Rattle.commands.proofs.Checks.{next_checked, stopped}
use Rattle.commands.proofs.check.check.Goals as goal

pub loop-directory-preserved : goal.loop-directory-preserved
loop-directory-preserved g c =
    next_checked _ _ _ _ _ _ _ _ _ _ c.loop-directory-test.true c.loop-directory.invariant
    c.in_ok-judgement.ensures.judged c.in_ok-judgement.ensures.told c.after-outcome.ensures

pub returns-in_err-judgement-clause-err : goal.returns-in_err-judgement-clause-err
returns-in_err-judgement-clause-err g c =
    let p = err_from_is_err_and c.from_residual.result c.from_residual.ensures.1 in
    rw (p.1, p.2) (stopped _ _ _ _ _ _ _ _ _ c.loop-directory-test.true c.loop-directory.invariant
    c.in_err-judgement.ensures.err c.in_err-judgement.ensures.kept c.in_err-judgement.ensures.cut)
