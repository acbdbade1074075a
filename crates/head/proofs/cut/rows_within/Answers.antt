use Rattle.std.proofs.Common.{◌≡◌, ◌++◌, [], ℕ, List, take, get_or, sym, ◌∙◌, ap, arith, rules, to_z, of_z, w64}
use Rattle.std.specs.Arc.{arc_value}
use Rattle.std.proofs.lemmas.List.{take_more, take_all}
use Rattle.labels.specs.Rows.{Row}
use Rattle.labels.specs.Parts.{within}
use Rattle.head.specs.Heads.{HeadSeries}
use Rattle.head.specs.HeadRows.{with_row, rows_within}
use Rattle.head.proofs.Leaving.{rows_within-more}
use Rattle.head.proofs.cut.rows_within.Goals as goal

pub loop-place-preserved : goal.loop-place-preserved
loop-place-preserved c =
    let from = to_z w64 (of_z w64 c.args.from) in
    let to = to_z w64 (of_z w64 c.args.to) in
    let k : ℕ = c.loop-place.place in
    let hs : List HeadSeries = c.args.head.now in
    let d : HeadSeries = arc_value c.at-series.result.now in
    let h : HeadSeries = get_or hs k d in
    c.in_ok-push_row.ensures
    ∙ ap (λ (row : Row). c.loop-place.rows.items ++ with_row row.0 row.1 []) c.new.ensures
    ∙ (λ j. c.loop-place.invariant j ++ with_row ((c.in_ok-labels.ensures ∙ c.labels.ensures ∙ ap (λ (s : HeadSeries). s.labels) (c.deref.ensures ∙ c.at-series.ensures)) j)
    ((c.in_ok-samples.ensures ∙ ap (λ (s : HeadSeries). within from to s.samples) (c.deref-in-loop-place.ensures ∙ c.at-series.ensures)) j) [])
    ∙ sym (rows_within-more from to (take k hs) h)
    ∙ ap (rows_within from to) (sym (take_more hs k d (omega (arith, c.loop-place-test.true, c.len-place-end.ensures))))

pub returns : goal.returns
returns c =
    let from_is : to_z w64 (of_z w64 c.args.from) ≡ c.args.from = search rules in
    let to_is : to_z w64 (of_z w64 c.args.to) ≡ c.args.to = search rules in
    let all : take c.loop-place.place c.args.head.now ≡ c.args.head.now = take_all c.loop-place.place c.args.head.now (omega (arith, c.loop-place-test.false, c.len-place-end.ensures)) in
    c.loop-place.invariant ∙ (λ i. rows_within (from_is i) (to_is i) (all i))
