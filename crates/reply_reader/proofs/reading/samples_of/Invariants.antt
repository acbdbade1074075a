use Rattle.std.proofs.Common.{◌≡◌, ◌++◌, drop, option_map}
use Rattle.serde_json.specs.View.{items_view}
use Rattle.reply_reader.specs.Replies.{each_said, sample_said}
use Rattle.reply_reader.proofs.reading.samples_of.Given as goal

abbrev pub invariant-loop-item : goal.invariant-loop-item
invariant-loop-item l =
    each_said sample_said (items_view l.items) ≡ option_map (λ xs. l.samples.items ++ xs)
    (each_said sample_said (items_view (drop l.item-index l.items)))
