use Rattle.std.proofs.Common.{◌∙◌}
use Rattle.std.proofs.lemmas.Result.{err_from_is_err_and}
use Rattle.index_reader.proofs.BodyParts.{empty_is, labels_fail, chunks_fail, ends_well, ends_late}
use Rattle.index_reader.proofs.body.body_into.Goals as goal

pub returns-in_err-labels_into : goal.returns-in_err-labels_into
returns-in_err-labels_into c =
    let p = err_from_is_err_and c.from_residual.result c.from_residual.ensures.1 in
    rw (p.1, p.2) (labels_fail c.in_err-labels_into.field-0.0 _ _ _ _
    (rw c.new-cut.ensures at c.in_err-labels_into.ensures))

pub returns-in_err-chunks_into : goal.returns-in_err-chunks_into
returns-in_err-chunks_into c =
    let p =
    err_from_is_err_and c.from_residual-in_err-chunks_into.result
    c.from_residual-in_err-chunks_into.ensures.1 in
    rw (p.1, p.2)
    (chunks_fail c.in_err-chunks_into.field-0.0 _ _ _ _ _ _
    (rw c.new-cut.ensures at c.in_ok-labels_into.ensures) c.in_err-chunks_into.ensures)

pub returns-then-not-is_empty : goal.returns-then-not-is_empty
returns-then-not-is_empty c =
    ends_late _ _ _ _ _ _ _ _ (rw c.new-cut.ensures at c.in_ok-labels_into.ensures)
    c.in_ok-chunks_into.ensures
    (empty_is c.chunks_into.new.cut c.is_empty.result c.is_empty.ensures ∙ c.if-not-is_empty.true)

pub returns : goal.returns
returns c =
    ends_well _ _ _ _ _ _ _ _ (rw c.new-cut.ensures at c.in_ok-labels_into.ensures)
    c.in_ok-chunks_into.ensures
    (empty_is c.chunks_into.new.cut c.is_empty.result c.is_empty.ensures ∙ c.if-not-is_empty.false)
