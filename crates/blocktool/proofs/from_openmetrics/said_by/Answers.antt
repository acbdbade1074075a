use Rattle.std.proofs.Common.{List, subst}
use Rattle.std.proofs.lemmas.Result.{err_from_is_err_and}
use Rattle.exposition.specs.declared.text.Left.{Left}
use Rattle.blocktool.specs.Forms.{rest_of}
use Rattle.blocktool.specs.Texts.{IsOtherRefused}
use Rattle.blocktool.proofs.Told.{refused_by_other, refused_by_text}
use Rattle.blocktool.proofs.from_openmetrics.said_by.Goals as goal

pub returns-in_err-said-clause-refused : goal.returns-in_err-said-clause-refused
returns-in_err-said-clause-refused c =
    let p = err_from_is_err_and c.from_residual.result c.from_residual.ensures.1 in
    let a = c.args in
    let e = c.in_err-said.field-0.0 in
    rw (p.1, p.2) (refused_by_text a.text_in.format a.options.now.form a.text.now
    a.options.now.times e c.in_err-said.ensures.refused)

pub returns-in_err-check_others-clause-refused : goal.returns-in_err-check_others-clause-refused
returns-in_err-check_others-clause-refused c =
    let r = c.from_residual-in_err-check_others in
    let p = err_from_is_err_and r.result r.ensures.1 in
    let a = c.args in
    let e = c.in_err-check_others.field-0.0 in
    let said = c.in_ok-said.said in
    rw (p.1, p.2) (refused_by_other a.text_in.format a.options.now.form a.text.now
    a.options.now.times said e c.in_ok-said.ensures.found
    (subst (λ (others : List Left).
    IsOtherRefused (rest_of a.options.now.form) a.options.now.times others e)
    c.as_slice.ensures.value c.in_err-check_others.ensures.refused))
