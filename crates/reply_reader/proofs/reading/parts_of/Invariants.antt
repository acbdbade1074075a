use Rattle.std.proofs.Common.{◌≡◌, ◌++◌, drop, option_map, map}
use Rattle.serde_json.specs.View.{items_view}
use Rattle.reply_reader.specs.Replies.{each_said, part_said, told_of_part}
use Rattle.reply_reader.proofs.reading.parts_of.Given as goal

abbrev pub invariant-loop-item : goal.invariant-loop-item
invariant-loop-item l =
    each_said part_said (items_view l.items)
    ≡ option_map (λ xs. map told_of_part l.parts.items ++ xs)
    (each_said part_said (items_view (drop l.item-index l.items)))
