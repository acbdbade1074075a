use Rattle.std.proofs.Common.{◌≡◌, ◌++◌, drop, option_map}
use Rattle.serde_json.specs.View.{items_view}
use Rattle.reply_reader.specs.Replies.{each_said, row_said}
use Rattle.reply_reader.proofs.reading.rows_of.Given as goal

abbrev pub invariant-loop-item : goal.invariant-loop-item
invariant-loop-item l =
    each_said row_said (items_view l.items) ≡ option_map (λ xs. l.rows.items ++ xs)
    (each_said row_said (items_view (drop l.item-index l.items)))
