use Rattle.std.proofs.Common.{◌+◌, ◌∷◌, [], ℕ, List, take, sym, ◌∙◌, ap, subst}
use Rattle.std.specs.List.{filter}
use Rattle.std.specs.List.Sorted.{IsStrictlyIncreasing}
use Rattle.labels.specs.Parts.{references_where}
use Rattle.labels.proofs.PartRows.{kept_rises}
use Rattle.matchers.specs.Views.{MatcherView}
use Rattle.matchers.specs.Satisfies.{satisfies_all}
use Rattle.block.specs.Fewer.{is_among}
use Rattle.head.proofs.Selecting.{satisfies_none, satisfies_one, satisfies_more, two_fronts, fronts_more, empty_of}
use Rattle.head.proofs.SlotLaws.{if_ok}
use Rattle.head.proofs.selection.matching_references.Goals as goal

pub returns-in-empty : goal.returns-in-empty
returns-in-empty g c =
    let part = g.S.Source.part c.args.source.now in
    if_ok c.collect_references.result
    (λ found is. is ∙ c.all.ensures ∙ satisfies_none part
    ∙ ap (λ (ms : List MatcherView). references_where (satisfies_all ms) part)
    (sym (empty_of c.args.matchers.now c.in-empty.len_below)))
    c.collect_references.ensures

pub loop-matcher-init : goal.loop-matcher-init
loop-matcher-init g c =
    let part = g.S.Source.part c.args.source.now in
    let rises = (g.met.S.Source.is_part c.args.source.now).ascending in
    let a : MatcherView = c.first-item.result in
    let b : MatcherView = c.second-item.result in
    c.in_ok-found-in-len2-up.ensures
    ∙ (λ i. filter (is_among (c.in_ok-choose-in-len2-up.ensures i))
    ((c.in_ok-first-in-len2-up.ensures ∙ satisfies_one a part) i))
    ∙ satisfies_more (a ∷ []) b part rises
    ∙ ap (λ (ms : List MatcherView). references_where (satisfies_all ms) part)
    (two_fronts c.args.matchers.now a b c.in-len2-up.len_at_least c.first-item.is
    c.second-item.is)

pub common-requires : goal.common-requires
common-requires g c =
    let part = g.S.Source.part c.args.source.now in
    let tests : List MatcherView = take (c.loop-matcher.matcher-index + 2) c.args.matchers.now in
    subst IsStrictlyIncreasing (sym (c.as_slice.ensures.value ∙ c.loop-matcher.invariant))
    (kept_rises (λ row. satisfies_all tests row.1.0) part
    (g.met.S.Source.is_part c.args.source.now).ascending)

pub loop-matcher-preserved : goal.loop-matcher-preserved
loop-matcher-preserved g c =
    let part = g.S.Source.part c.args.source.now in
    let i : ℕ = c.loop-matcher.matcher-index in
    let m : MatcherView = c.matcher-item.result in
    let tests : List MatcherView = take (i + 2) c.args.matchers.now in
    let held = c.as_slice.ensures.value ∙ c.loop-matcher.invariant in
    c.in_ok-found-in-len2-up-2.ensures
    ∙ (λ j. filter (is_among (c.in_ok-choose-in-len2-up-2.ensures j)) (held j))
    ∙ satisfies_more tests m part (g.met.S.Source.is_part c.args.source.now).ascending
    ∙ ap (λ (ms : List MatcherView). references_where (satisfies_all ms) part)
    (fronts_more c.args.matchers.now m i c.in-len2-up.len_at_least c.loop-matcher-test.true
    c.matcher-item.is)
