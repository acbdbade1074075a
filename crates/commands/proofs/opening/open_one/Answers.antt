use Rattle.std.proofs.lemmas.Result.{err_from_is_err_and}
use Rattle.commands.proofs.Openings.{unopened, refused_at}
use Rattle.commands.proofs.WholeFiles.{whole_of, whole_found, whole_spelled}
use Rattle.commands.proofs.opening.open_one.Goals as goal

pub returns-in_err-block-clause-err : goal.returns-in_err-block-clause-err
returns-in_err-block-clause-err g c =
    let p = err_from_is_err_and c.from_residual.result c.from_residual.ensures.1 in
    rw (p.1, p.2) (unopened _ _ _ c.in_err-block.ensures.err)

pub returns-in_err-open-clause-err : goal.returns-in_err-open-clause-err
returns-in_err-open-clause-err g c =
    let p =
    err_from_is_err_and c.from_residual-in_err-open.result c.from_residual-in_err-open.ensures.1 in
    rw (p.1, p.2) (refused_at _ _ c.in_ok-block.block c.in_ok-block.ensures.ok _
    c.in_err-open.ensures.exact c.in_err-open.ensures.only)

pub returns-clause-ok : goal.returns-clause-ok
returns-clause-ok g c = record {
  files = whole_of _ _ c.in_ok-block.block c.in_ok-block.ensures.ok;
  found = whole_found _ _ c.in_ok-block.block c.in_ok-block.ensures.ok;
  spelled =
      whole_spelled _ _ c.in_ok-block.block c.in_ok-block.ensures.ok _ _ c.in_ok-open.ensures.found;
}
