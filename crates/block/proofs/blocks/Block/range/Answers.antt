use Rattle.std.proofs.Common.{subst}
use Rattle.std.specs.Arc.{arc_value}
use Rattle.labels.specs.Parts.{IsPart}
use Rattle.block.specs.Blocks.{Shown, AreInside}
use Rattle.block.specs.Kept.{source_in}
use Rattle.block.proofs.Parts.{is_part, is_inside}
use Rattle.block.proofs.blocks.Block.range.Goals as goal

pub returns-clause-inside : goal.returns-clause-inside
returns-clause-inside c =
    let b = c.self.inside in
    subst (λ (shown : Shown). AreInside shown.range shown.part) c.self.view_is (is_inside b.range
    (source_in (arc_value b.files)) (arc_value b.files).index b.tombstones c.self.invariant.sound)

pub returns-clause-is_part : goal.returns-clause-is_part
returns-clause-is_part c =
    let b = c.self.inside in
    subst (λ (shown : Shown). IsPart shown.part) c.self.view_is (is_part b.range
    (source_in (arc_value b.files)) (arc_value b.files).index b.tombstones c.self.invariant.sound)
