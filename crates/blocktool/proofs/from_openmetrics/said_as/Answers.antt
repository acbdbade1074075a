use Rattle.std.proofs.Common.{ℕ, subst}
use Rattle.std.proofs.lemmas.Result.{err_from_is_err_and}
use Rattle.exposition.specs.declared.text.Reading.{Reading}
use Rattle.blocktool.specs.Forms.{reading_of}
use Rattle.blocktool.specs.Texts.{IsSaidBy, IsToldRefused}
use Rattle.blocktool.proofs.from_openmetrics.said_as.Goals as goal

pub returns-in_err-said-clause-refused : goal.returns-in_err-said-clause-refused
returns-in_err-said-clause-refused c =
    let p = err_from_is_err_and c.from_residual.result c.from_residual.ensures.1 in
    let a = c.args in
    let e = c.in_err-said.field-0.0 in
    rw (p.1, p.2) (subst (λ (n : ℕ). IsToldRefused a.text_in.format n (reading_of a.options.now.form) a.text.now
    e) c.places_of-places.ensures.is
    (subst (λ (r : Reading). IsToldRefused a.text_in.format c.places_of-places.result r a.text.now
    e) c.reading_of-reading.ensures c.in_err-said.ensures.refused))
