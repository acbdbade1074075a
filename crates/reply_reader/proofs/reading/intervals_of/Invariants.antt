use Rattle.std.proofs.Common.{◌≡◌, ◌++◌, drop, option_map}
use Rattle.serde_json.specs.View.{items_view}
use Rattle.reply_reader.specs.Replies.{each_said, interval_said}
use Rattle.reply_reader.proofs.reading.intervals_of.Given as goal

abbrev pub invariant-loop-item : goal.invariant-loop-item
invariant-loop-item l =
    each_said interval_said (items_view l.items) ≡ option_map (λ xs. l.intervals.items ++ xs)
    (each_said interval_said (items_view (drop l.item-index l.items)))
