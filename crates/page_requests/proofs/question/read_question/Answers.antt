use Rattle.std.proofs.Common.{◌≡◌, Some, sym}
use Rattle.std.proofs.lemmas.Result.{err_from_is_err_and}
use Rattle.requests.specs.QueryStrings.{query_pairs}
use Rattle.page_requests.specs.Fields.{form_in, form_seen}
use Rattle.page_requests.proofs.Meanings.{refused_about, refused_selector}
use Rattle.page_requests.proofs.question.read_question.Goals as goal

pub returns-in_err-query : goal.returns-in_err-query
returns-in_err-query c =
    let form : form_in (query_pairs c.args.query.now) ≡ Some (form_seen c.in-Some.form) =
    rw (← c.in_ok-pairs.ensures, ← c.as_slice.ensures.value) (sym c.in-Some.ensures.value) in
    let p = err_from_is_err_and c.from_residual-in_err-query.result c.from_residual-in_err-query.ensures.1 in
    rw (p.1, p.2) (refused_selector _ _ form _ c.in_err-query.ensures.err)

pub returns-in_err-about : goal.returns-in_err-about
returns-in_err-about c =
    let form : form_in (query_pairs c.args.query.now) ≡ Some (form_seen c.in-Some.form) =
    rw (← c.in_ok-pairs.ensures, ← c.as_slice.ensures.value) (sym c.in-Some.ensures.value) in
    let p = err_from_is_err_and c.from_residual-in_err-about.result c.from_residual-in_err-about.ensures.1 in
    rw (p.1, p.2) (refused_about _ _ form _ c.in_ok-query.ensures.ok.matchers _ c.in_err-about.ensures.err)

pub returns : goal.returns
returns c =
    let form : form_in (query_pairs c.args.query.now) ≡ Some (form_seen c.in-Some.form) =
    rw (← c.in_ok-pairs.ensures, ← c.as_slice.ensures.value) (sym c.in-Some.ensures.value) in
    (_, form, record { selector = c.in_ok-selector.ensures.ok; query = c.in_ok-query.ensures.ok; about = c.in_ok-about.ensures.ok })
