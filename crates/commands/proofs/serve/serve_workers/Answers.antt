use Rattle.std.proofs.Common.{inl, inr}
use Rattle.std.proofs.lemmas.Result.{err_from_is_err_and}
use Rattle.commands.proofs.LineEnds.{unused}
use Rattle.commands.proofs.Servings.{not_listened, ended_early}
use Rattle.commands.proofs.serve.serve_workers.Goals as goal

pub returns-in_err-listener-clause-err : goal.returns-in_err-listener-clause-err
returns-in_err-listener-clause-err g c =
    let p = err_from_is_err_and c.from_residual.result c.from_residual.ensures.1 in
    rw (p.1, p.2) (inl (
      not_listened c.args.serving _ c.in_err-listener.ensures,
      unused _ (g.W.Write.contents c.args.out.now),
    ))

pub returns-in_err-tell_port-clause-err : goal.returns-in_err-tell_port-clause-err
returns-in_err-tell_port-clause-err g c =
    let p =
    err_from_is_err_and c.from_residual-in_err-tell_port.result
    c.from_residual-in_err-tell_port.ensures.1 in
    rw (p.1, p.2) (inl (c.in_err-tell_port.ensures.faults, c.in_err-tell_port.ensures.kept))

pub returns-in_err-shifts-clause-err : goal.returns-in_err-shifts-clause-err
returns-in_err-shifts-clause-err g c =
    let p =
    err_from_is_err_and c.from_residual-in_err-shifts.result
    c.from_residual-in_err-shifts.ensures.1 in
    rw (p.1, p.2) (inr (c.in_ok-tell_port.ensures.ok, ended_early _))
