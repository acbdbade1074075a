use Rattle.std.proofs.Common.{◌≡◌, ◌+◌, List, [], map, get_or, sym, ◌∙◌, arith, rules, to_z, of_z, w64}
use Rattle.std.specs.Prelude.{pos}
use Rattle.std.specs.Arc.{arc_value}
use Rattle.std.proofs.lemmas.List.{length-map}
use Rattle.labels.specs.Parts.{has_sample}
use Rattle.head.specs.Heads.{HeadSeries}
use Rattle.head.specs.HeadRows.{rows_from}
use Rattle.head.proofs.Living.{leaf_inside, leaf_times, leaf_passed, leaf_settled, in_times}
use Rattle.head.proofs.live.next_live.Goals as goal

some : HeadSeries
some = record { labels = []; samples = []; newest = (pos 0, pos 0) }

pub passed_in-passed-requires : goal.passed_in-passed-requires
passed_in-passed-requires c =
    let leaf : List HeadSeries = map (λ s. arc_value s) c.leaf_from-leaf.result.now in
    leaf_times c.args.series.now leaf c.loop-place.place c.leaf_from-leaf.ensures.prefix (omega (arith, c.loop-place-test.true, c.len.ensures)) c.requires

pub overflow_add-place : goal.overflow_add-place
overflow_add-place c =
    let leaf : List HeadSeries = map (λ s. arc_value s) c.leaf_from-leaf.result.now in
    let inside = leaf_inside c.args.series.now leaf c.loop-place.place c.leaf_from-leaf.ensures.prefix (omega (arith, c.loop-place-test.true, c.len.ensures)) in
    omega (arith, inside, c.passed_in-passed.ensures.inside, length-map c.leaf_from-leaf.result.now (λ s. arc_value s), c.len.ensures, c.len.type_inv)

pub loop-place-preserved : goal.loop-place-preserved
loop-place-preserved c =
    let leaf : List HeadSeries = map (λ s. arc_value s) c.leaf_from-leaf.result.now in
    leaf_passed c.args.series.now leaf c.loop-place.place c.leaf_from-leaf.ensures.prefix (to_z w64 (of_z w64 c.args.from)) (to_z w64 (of_z w64 c.args.to)) c.passed_in-passed.result some
    (omega (arith, c.loop-place-test.true, c.len.ensures)) (omega (arith, c.passed_in-passed.ensures.inside, length-map c.leaf_from-leaf.result.now (λ s. arc_value s))) c.passed_in-passed.ensures.passed
    ∙ c.loop-place.invariant

pub returns-then-passed-leaf-clause-moved : goal.returns-then-passed-leaf-clause-moved
returns-then-passed-leaf-clause-moved c =
    let x : to_z w64 (of_z w64 c.args.from) ≡ c.args.from = search rules in
    let y : to_z w64 (of_z w64 c.args.to) ≡ c.args.to = search rules in
    let leaf : List HeadSeries = map (λ s. arc_value s) c.leaf_from-leaf.result.now in
    in_times c.args.from (to_z w64 (of_z w64 c.args.from)) c.args.to (to_z w64 (of_z w64 c.args.to)) (rows_from (c.loop-place.place + c.passed_in-passed.result) c.args.series.now) (rows_from c.args.start c.args.series.now) x y
    (leaf_passed c.args.series.now leaf c.loop-place.place c.leaf_from-leaf.ensures.prefix (to_z w64 (of_z w64 c.args.from)) (to_z w64 (of_z w64 c.args.to)) c.passed_in-passed.result some
    (omega (arith, c.loop-place-test.true, c.len.ensures)) (omega (arith, c.passed_in-passed.ensures.inside, length-map c.leaf_from-leaf.result.now (λ s. arc_value s))) c.passed_in-passed.ensures.passed
    ∙ c.loop-place.invariant)

pub returns-then-passed-leaf-clause-settled : goal.returns-then-passed-leaf-clause-settled
returns-then-passed-leaf-clause-settled c =
    let x : to_z w64 (of_z w64 c.args.from) ≡ c.args.from = search rules in
    let y : to_z w64 (of_z w64 c.args.to) ≡ c.args.to = search rules in
    let leaf : List HeadSeries = map (λ s. arc_value s) c.leaf_from-leaf.result.now in
    leaf_settled c.args.series.now leaf c.loop-place.place c.leaf_from-leaf.ensures.prefix c.args.from c.args.to c.passed_in-passed.result some
    (omega (arith, c.loop-place-test.true, c.len.ensures)) (omega (arith, c.if-passed-leaf.true, length-map c.leaf_from-leaf.result.now (λ s. arc_value s)))
    ((λ i. has_sample (sym x i) (sym y i) (get_or leaf c.passed_in-passed.result some).samples) ∙ c.passed_in-passed.ensures.stopped some c.if-passed-leaf.true)
