use Rattle.std.proofs.Common.{◌≡◌, ◌-◌, ◌≤◌, ℕ, List, [], ◌∷◌, ◌++◌, length, take, refl, sym, ◌∙◌, ap, subst, arith, to_z, of_z, w64}
use Rattle.std.specs.Prelude.{slice_set, slice_index_or}
use Rattle.std.specs.List.{Contains}
use Rattle.std.proofs.lemmas.List.{length-set, take_more}
use Rattle.head.specs.Heads.{HeadSeries}
use Rattle.std.specs.Arc.{arc_value}
use Rattle.head.specs.Removing.{series_less, head_less}
use Rattle.head.proofs.Striking.{less_more, less_none}
use Rattle.head.proofs.deletion.drop_each.Goals as goal

pub loop-reference-init : goal.loop-reference-init
loop-reference-init c = record {
  same = sym (less_none (to_z w64 (of_z w64 c.args.from)) (to_z w64 (of_z w64 c.args.to)) 1 (c.args.series.now));
  count = refl;
}

pub overflow_sub-place : goal.overflow_sub-place
overflow_sub-place c =
    let held : Contains c.args.references.now c.reference-item.result = (c.loop-reference.reference-index, c.loop-reference-test.true, sym c.reference-item.is) in
    subst (λ n. 1 ≤ n) (sym c.number.ensures) (c.requires c.reference-item.result held).0

pub at-requires : goal.at-requires
at-requires c =
    let held : Contains c.args.references.now c.reference-item.result = (c.loop-reference.reference-index, c.loop-reference-test.true, sym c.reference-item.is) in
    let bounds = c.requires c.reference-item.result held in
    omega (arith, bounds, c.loop-reference.invariant.count, c.number.ensures)

pub set-requires : goal.set-requires
set-requires c =
    let held : Contains c.args.references.now c.reference-item.result = (c.loop-reference.reference-index, c.loop-reference-test.true, sym c.reference-item.is) in
    let bounds = c.requires c.reference-item.result held in
    omega (arith, bounds, c.loop-reference.invariant.count, c.number.ensures)

pub loop-reference-preserved : goal.loop-reference-preserved
loop-reference-preserved c =
    let from = to_z w64 (of_z w64 c.args.from) in
    let to = to_z w64 (of_z w64 c.args.to) in
    let refs = c.args.references.now in
    let i = c.loop-reference.reference-index in
    let r = c.reference-item.result in
    let k = c.number.result - 1 in
    let hs : List HeadSeries = c.args.series.now in
    let now : List HeadSeries = c.loop-reference.series in
    let d : HeadSeries = arc_value c.at.result.now in
    let held : Contains refs r = (i, c.loop-reference-test.true, sym c.reference-item.is) in
    let bounds = c.requires r held in
    let same = c.loop-reference.invariant.same in
    let left : arc_value c.in_ok-new.field-0 ≡ series_less from to (slice_index_or now k d) =
    c.in_ok-new.ensures.ok ∙ c.in_ok-left.ensures ∙ ap (series_less from to) (c.deref.ensures ∙ c.at.ensures) in
    record {
      same =
          c.in_ok-set.ensures.ok
          ∙ (λ j. slice_set (same j) k ((left ∙ ap (λ (xs : List HeadSeries). series_less from to (slice_index_or xs k d)) same) j))
          ∙ less_more from to (take i refs) r 1 k hs d (omega (arith, bounds, c.number.ensures)) (omega (arith, bounds, c.number.ensures))
          ∙ ap (λ (rs : List ℕ). head_less rs from to 1 hs) (sym (take_more refs i r c.loop-reference-test.true ∙ ap (λ (x : ℕ). take i refs ++ x ∷ []) (sym c.reference-item.is)));
      count = ap length c.in_ok-set.ensures.ok ∙ length-set now k (arc_value c.in_ok-new.field-0) ∙ c.loop-reference.invariant.count;
    }
