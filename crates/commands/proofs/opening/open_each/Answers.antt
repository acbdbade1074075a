use Rattle.std.proofs.lemmas.Result.{err_from_is_err_and}
use Rattle.commands.proofs.Openings.{one_more_opened, first_fault, out_of_memory}
use Rattle.commands.proofs.opening.open_each.Goals as goal

pub loop-directory-preserved : goal.loop-directory-preserved
loop-directory-preserved g c = rw c.in_ok-push.ensures.items
    (one_more_opened _ _ _ _ _ _ c.loop-directory-test.true c.loop-directory.invariant
    c.in_ok-block.ensures.ok)

pub returns-in_err-block-clause-err : goal.returns-in_err-block-clause-err
returns-in_err-block-clause-err g c =
    let p = err_from_is_err_and c.from_residual.result c.from_residual.ensures.1 in
    rw (p.1, p.2) (first_fault _ _ _ _ _ c.loop-directory-test.true c.loop-directory.invariant _
    c.in_err-block.ensures.err)

pub returns-in_err-push-clause-err : goal.returns-in_err-push-clause-err
returns-in_err-push-clause-err g c =
    let p =
    err_from_is_err_and c.from_residual-in_err-push.result c.from_residual-in_err-push.ensures.1 in
    rw (p.1, p.2) (out_of_memory _ _ _ _ _ c.loop-directory-test.true c.loop-directory.invariant
    c.in_ok-block.block c.in_ok-block.ensures.ok)
