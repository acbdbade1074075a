use Rattle.std.proofs.Common.{◌∙◌, ap, map}
use Rattle.std.proofs.lemmas.List.{map_push}
use Rattle.reply_reader.specs.Replies.{part_said, told_of_part}
use Rattle.reply_reader.proofs.Replying.{item_more}
use Rattle.reply_reader.proofs.reading.parts_of.Goals as goal

pub loop-item-preserved : goal.loop-item-preserved
loop-item-preserved c =
    item_more part_said _ c.in_ok-items.items.now c.loop-item.item-index c.item-item.result _ _
    (told_of_part c.in_ok-part_of.field-0) c.loop-item-test.true c.item-item.is
    c.in_ok-part_of.ensures
    (ap (map told_of_part) c.in_ok-push.ensures.items
    ∙ map_push told_of_part c.loop-item.parts.items c.in_ok-part_of.field-0) c.loop-item.invariant
