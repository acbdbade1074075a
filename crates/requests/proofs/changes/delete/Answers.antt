use Rattle.std.proofs.Common.{rules, w64, SFits}
use Rattle.std.proofs.lemmas.Int.{to_z-of_z}
use Rattle.std.proofs.lemmas.Result.{err_from_is_err_and}
use Rattle.requests.proofs.JsonTexts.{deletion_when, refused_delete}
use Rattle.requests.proofs.changes.delete.Goals as goal

pub returns-in_err-matchers : goal.returns-in_err-matchers
returns-in_err-matchers c =
    let form = deletion_when c.args.body.now _ _ (rw c.in-Some.is at c.in_ok-value.ensures)
    c.in-Some-deletion_in.ensures in
    let p = err_from_is_err_and c.from_residual-in_err-matchers.result
    c.from_residual-in_err-matchers.ensures.1 in
    rw (p.1, p.2) (refused_delete _ _ form _ c.in_err-matchers.ensures.err)

pub returns : goal.returns
returns c =
    let from_fits : SFits w64 c.in-Some-deletion_in.from = search rules in
    let to_fits : SFits w64 c.in-Some-deletion_in.to = search rules in
    let form = deletion_when c.args.body.now _ _ (rw c.in-Some.is at c.in_ok-value.ensures)
    c.in-Some-deletion_in.ensures in
    (_, form, c.in_ok-matchers.ensures.ok, to_z-of_z w64 _ from_fits, to_z-of_z w64 _ to_fits)
