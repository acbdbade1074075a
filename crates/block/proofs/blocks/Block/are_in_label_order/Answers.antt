use Rattle.std.proofs.Common.{subst}
use Rattle.std.specs.Arc.{arc_value}
use Rattle.block.specs.Blocks.{Shown, AreInLabelOrder}
use Rattle.block.specs.Kept.{source_in}
use Rattle.block.proofs.LabelOrder.{in_label_order}
use Rattle.block.proofs.blocks.Block.are_in_label_order.Goals as goal

pub returns : goal.returns
returns c =
    let b = c.self.inside in
    subst (λ (shown : Shown). AreInLabelOrder shown.part) c.self.view_is
    (in_label_order (source_in (arc_value b.files)) b.tombstones (arc_value b.files).index
    c.self.invariant.sound.consistent)
