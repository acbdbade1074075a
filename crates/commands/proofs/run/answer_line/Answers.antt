use Rattle.std.proofs.lemmas.Result.{err_from_is_err_and}
use Rattle.commands.proofs.run.answer_line.Goals as goal

pub returns-in_err-demo-in-Demo : goal.returns-in_err-demo-in-Demo
returns-in_err-demo-in-Demo g c =
    let p = err_from_is_err_and c.from_residual.result c.from_residual.ensures.1 in
    rw (c.in-Demo.is, p.1, p.2)
    (c.in_err-demo-in-Demo.ensures.faults, c.in_err-demo-in-Demo.ensures.kept)
