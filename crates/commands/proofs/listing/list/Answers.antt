use Rattle.std.proofs.lemmas.Result.{err_from_is_err_and}
use Rattle.commands.proofs.Listings.{list_refused}
use Rattle.commands.proofs.listing.list.Goals as goal

pub returns-in_err-text-clause-err : goal.returns-in_err-text-clause-err
returns-in_err-text-clause-err g c =
    let p =
    err_from_is_err_and c.from_residual-in_err-text.result
    c.from_residual-in_err-text.ensures.1 in
    rw (p.1, p.2)
    (list_refused (g.F.ReadFiles.may_read c.args.files.now) c.args.path.now c.as_slice.result.now
    _ (rw c.as_slice.ensures.value c.in_ok-bytes.ensures.ok)
    c.in_err-text.ensures.err)
