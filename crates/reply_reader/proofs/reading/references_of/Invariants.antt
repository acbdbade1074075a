use Rattle.std.proofs.Common.{◌≡◌, ◌++◌, drop, option_map}
use Rattle.serde_json.specs.View.{items_view}
use Rattle.reply_reader.specs.Replies.{each_said, reference_said}
use Rattle.reply_reader.proofs.reading.references_of.Given as goal

abbrev pub invariant-loop-item : goal.invariant-loop-item
invariant-loop-item l =
    each_said reference_said (items_view l.items) ≡ option_map (λ xs. l.references.items ++ xs)
    (each_said reference_said (items_view (drop l.item-index l.items)))
