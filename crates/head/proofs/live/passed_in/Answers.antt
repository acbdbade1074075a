use Rattle.std.proofs.Common.{List, map, sym, ap, subst, ◌∙◌, arith, to_z, of_z, w64}
use Rattle.std.specs.Prelude.{T}
use Rattle.std.specs.Arc.{arc_value}
use Rattle.std.specs.Ordering.{int_cmp}
use Rattle.std.specs.FinMap.Entries.{is_sorted}
use Rattle.std.proofs.lemmas.List.{length-map}
use Rattle.labels.specs.Parts.{has_sample}
use Rattle.head.specs.Heads.{HeadSeries}
use Rattle.head.proofs.Living.{at_place, none_more}
use Rattle.head.proofs.live.passed_in.Goals as goal

pub has_sample_in-requires : goal.has_sample_in-requires
has_sample_in-requires c =
    let k = c.loop-passed.passed in
    let x = c.index-leaf-passed.result in
    let at = at_place (λ s. arc_value s) c.args.leaf.now k x c.deref.result.now c.loop-passed-test.true c.index-leaf-passed.is c.deref.ensures in
    subst (λ (h : HeadSeries). T (is_sorted int_cmp h.samples)) at
    (c.requires k (arc_value x) (omega (arith, c.loop-passed-test.true, length-map c.args.leaf.now (λ s. arc_value s))))

pub loop-passed-preserved : goal.loop-passed-preserved
loop-passed-preserved c =
    let k = c.loop-passed.passed in
    let x = c.index-leaf-passed.result in
    let from = to_z w64 (of_z w64 c.args.from) in
    let to = to_z w64 (of_z w64 c.args.to) in
    let hs : List HeadSeries = map (λ s. arc_value s) c.args.leaf.now in
    let at = at_place (λ s. arc_value s) c.args.leaf.now k x c.deref.result.now c.loop-passed-test.true c.index-leaf-passed.is c.deref.ensures in
    record {
      inside = omega (arith, c.loop-passed-test.true);
      none = none_more from to hs k (arc_value x) (omega (arith, c.loop-passed-test.true, length-map c.args.leaf.now (λ s. arc_value s))) c.loop-passed.invariant.none
          (ap (λ (h : HeadSeries). has_sample from to h.samples) at ∙ sym c.has_sample_in.ensures ∙ c.if-not-has_sample_in.true);
    }
