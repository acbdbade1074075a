use Rattle.std.proofs.Common.{rules, ◌≡◌, ℤ, to_z, of_z, w64, ap, sym, subst, ◌∙◌}
use Rattle.std.proofs.lemmas.List.{take_all}
use Rattle.std.proofs.lemmas.List.Elements.{All-more}
use Rattle.std.proofs.lemmas.List.Sums.{fold_more}
use Rattle.std.specs.Int.{int_max}
use Rattle.labels.specs.declared.sample.TheConstants.{MIN_TIME}
use Rattle.labels.specs.Contents.{is_time}
use Rattle.block.specs.Blocks.{Shown, AreInside}
use Rattle.head.specs.Blocks.{EachInside}
use Rattle.head.proofs.Opening.{time_of_max}
use Rattle.head.proofs.snapshot.floor_of.Goals as goal

pub loop-block-preserved : goal.loop-block-preserved
loop-block-preserved c =
    let blocks = c.args.blocks.now in
    let i = c.loop-block.block-index in
    let block : Shown = c.block-item.result in
    let floor_is : to_z w64 (of_z w64 c.max-floor.result) ≡ c.max-floor.result = search rules in
    let end_fits : to_z w64 (of_z w64 c.max.result) ≡ c.max.result = search rules in
    record {
      floor =
          floor_is ∙ c.max-floor.ensures.value
          ∙ (λ j. int_max (c.loop-block.invariant.floor j) ((end_fits ∙ c.max.ensures.end ∙ ap (λ (r : ℤ × ℤ). r.1) (c.range.ensures.range ∙ ap (λ (b : Shown). b.range) c.block-item.is)) j))
          ∙ sym (fold_more (λ (floor : ℤ) (b : Shown). int_max floor b.range.1) MIN_TIME blocks i block c.loop-block-test.true);
      time = time_of_max (to_z w64 (of_z w64 c.max-floor.result)) (to_z w64 c.loop-block.floor-bits) (to_z w64 (of_z w64 c.max.result)) (floor_is ∙ c.max-floor.ensures.value) c.loop-block.invariant.time (ap is_time (end_fits ∙ c.max.ensures.end) ∙ c.max.ensures.range.end);
      inside = All-more (λ (b : Shown). AreInside b.range b.part) blocks i block c.loop-block-test.true c.loop-block.invariant.inside
          (subst (λ (b : Shown). AreInside b.range b.part) c.block-item.is c.range.ensures.inside);
    }

pub returns-clause-inside : goal.returns-clause-inside
returns-clause-inside c = subst EachInside (take_all c.loop-block.block-index c.args.blocks.now c.loop-block-test.false) c.loop-block.invariant.inside
