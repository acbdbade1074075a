use Rattle.std.proofs.Common.{sym, ◌∙◌}
use Rattle.std.proofs.lemmas.Result.{err_from_is_err_and}
use Rattle.block_walk.proofs.IndexFile.BodyParts.{labels_fail, chunks_fail, ends_well, ends_late}
use Rattle.block_walk.proofs.body.body_into.Goals as goal

pub returns-in_err-rest : goal.returns-in_err-rest
returns-in_err-rest c =
    let p = err_from_is_err_and c.from_residual.result c.from_residual.ensures.1 in
    rw (p.1, p.2) (labels_fail c.in_err-rest.field-0.0 _ _ _ _ c.in_err-rest.ensures)

pub returns-in_err-rest-2 : goal.returns-in_err-rest-2
returns-in_err-rest-2 c =
    let p =
    err_from_is_err_and c.from_residual-in_err-rest-2.result
    c.from_residual-in_err-rest-2.ensures.1 in
    rw (p.1, p.2)
    (chunks_fail c.in_err-rest-2.field-0.0 _ _ _ _ _ _ c.in_ok-rest.ensures c.in_err-rest-2.ensures)

pub returns-then-not-is_empty : goal.returns-then-not-is_empty
returns-then-not-is_empty c =
    ends_late _ _ _ _ _ _ _ _ c.in_ok-rest.ensures c.in_ok-rest-2.ensures (sym c.is_empty.ensures
    ∙ c.if-not-is_empty.true)

pub returns : goal.returns
returns c =
    ends_well _ _ _ _ _ _ _ _ c.in_ok-rest.ensures c.in_ok-rest-2.ensures (sym c.is_empty.ensures
    ∙ c.if-not-is_empty.false)
