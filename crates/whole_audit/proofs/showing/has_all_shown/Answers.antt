use Rattle.std.proofs.Common.{◌≡◌, ◌∙◌, ap, subst}
use Rattle.matchers.specs.Views.{QueryView}
use Rattle.cover.specs.Asking.{asked}
use Rattle.cover.specs.Certificates.{AreSeparators, begins_of}
use Rattle.whole_audit.proofs.Having.{has_all}
use Rattle.whole_audit.proofs.showing.has_all_shown.Goals as goal

pub returns : goal.returns
returns c =
    let query = c.args.query.now in
    let series = c.series-series.result.now in
    let looks : c.are_separators.new.looks ≡ query =
    c.are_separators.ensures.same ∙ c.in_ok-looks.ensures in
    has_all c.args.table.now query c.args.answer.now series
    c.are_separators.new.looks _ _ _ c.count_listed.result c.count_asked.result
    c.series-series.ensures.part c.series-series.ensures.items looks
    (c.as_slice-2.ensures.value ∙ c.in_ok-begins.ensures ∙ ap begins_of c.as_slice.ensures.value) c.as_slice-3.ensures.value
    c.as_slice-4.ensures.value
    (c.are_references.ensures.0 c.if-not-are_references.false)
    (subst (λ (q : QueryView). AreSeparators (asked series q) c.as_slice-3.result.now) c.in_ok-looks.ensures
    (c.are_separators.ensures.separated.0 c.if-not-are_separators.false))
    c.count_listed.ensures c.count_asked.ensures.counted
