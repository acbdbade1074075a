use Rattle.std.proofs.Common.{◌≡◌, Some, sym, rules, w64, SFits}
use Rattle.std.proofs.lemmas.Int.{to_z-of_z}
use Rattle.std.proofs.lemmas.Result.{err_from_is_err_and}
use Rattle.requests.specs.QueryStrings.{query_pairs, asked_in}
use Rattle.requests.proofs.SelectorTexts.{refused_select, no_query_error, query_of}
use Rattle.requests.proofs.select.select.Goals as goal

pub returns-in_err-matchers : goal.returns-in_err-matchers
returns-in_err-matchers c =
    let form : asked_in (query_pairs c.args.query.now)
    ≡ Some (c.in-Some.text.now, c.in-Some.from, c.in-Some.to) =
    rw (← c.in_ok-pairs.ensures, ← c.as_slice.ensures.value) (sym c.in-Some.ensures.value) in
    let p = err_from_is_err_and c.from_residual-in_err-matchers.result
    c.from_residual-in_err-matchers.ensures.1 in
    rw (p.1, p.2) (refused_select _ _ form _ c.in_err-matchers.ensures.err)

pub returns-in-Ok : goal.returns-in-Ok
returns-in-Ok c =
    let form : asked_in (query_pairs c.args.query.now)
    ≡ Some (c.in-Some.text.now, c.in-Some.from, c.in-Some.to) =
    rw (← c.in_ok-pairs.ensures, ← c.as_slice.ensures.value) (sym c.in-Some.ensures.value) in
    let from_fits : SFits w64 c.in-Some.from = search rules in
    let to_fits : SFits w64 c.in-Some.to = search rules in (
      _,
      form,
      query_of (c.in-Some.text.now, c.in-Some.from, c.in-Some.to) c.in_ok-matchers.matchers.items
          c.in-Ok.query _ _
          c.in_ok-matchers.ensures.ok c.in-Ok.ensures.ok (to_z-of_z w64 _ from_fits)
          (to_z-of_z w64 _ to_fits),
    )

pub returns : goal.returns
returns c =
    let from_fits : SFits w64 c.in-Some.from = search rules in
    let to_fits : SFits w64 c.in-Some.to = search rules in
    absurd (no_query_error c.in-Err.field-0 c.in-Some.from c.in-Some.to _ _
    c.in_ok-matchers.matchers.items
    (to_z-of_z w64 _ from_fits) (to_z-of_z w64 _ to_fits) c.in-Some.ensures.range
    c.in_ok-matchers.ensures.ok.few c.in-Err.ensures.bad_range.0 c.in-Err.ensures.too_many.0)
