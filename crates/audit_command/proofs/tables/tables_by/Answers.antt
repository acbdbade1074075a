use Rattle.std.proofs.lemmas.Result.{err_from_is_err_and}
use Rattle.audit_command.proofs.Directories.{one_more, first_fault}
use Rattle.audit_command.proofs.tables.tables_by.Goals as goal

pub loop-directory-preserved : goal.loop-directory-preserved
loop-directory-preserved g c = rw c.in_ok-push.ensures.items
    (one_more _ _ _ _ _ c.loop-directory-test.true c.loop-directory.invariant _ c.in_ok-table.ensures.ok)

pub returns-in_err-table-clause-err : goal.returns-in_err-table-clause-err
returns-in_err-table-clause-err g c =
    let p = err_from_is_err_and c.from_residual.result c.from_residual.ensures.1 in
    rw (p.1, p.2) (first_fault _ _ _ _ _ c.loop-directory-test.true c.loop-directory.invariant _ c.in_err-table.ensures.err)
