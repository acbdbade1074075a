use Rattle.std.proofs.Common.{inl, inr}
use Rattle.std.proofs.lemmas.Result.{IfErr-weaker, err_from_is_err_and}
use Rattle.commands.proofs.LineEnds.{unused}
use Rattle.commands.proofs.keeping.serve_folder.Goals as goal

pub returns-in_err-allow_port-clause-err : goal.returns-in_err-allow_port-clause-err
returns-in_err-allow_port-clause-err g c =
    let p = err_from_is_err_and c.from_residual.result c.from_residual.ensures.1 in
    rw (p.1, p.2)
    (inl (c.in_err-allow_port.ensures.err, unused _ (g.W.Write.contents c.args.out.now)))

pub returns-clause-err : goal.returns-clause-err
returns-clause-err g c =
    IfErr-weaker c.serve_found.result _ _ (λ fault h. inr h) c.serve_found.ensures.err
