use Rattle.std.proofs.Common.{◌≡◌}
use Rattle.serde_json.specs.View.{members_view}
use Rattle.labels.specs.Pairs.{texts_of}
use Rattle.reply_reader.specs.Replies.{texts_said}
use Rattle.reply_reader.proofs.Replying.{with_left}
use Rattle.reply_reader.proofs.reading.texts_of.Given as goal

abbrev pub invariant-loop-name : goal.invariant-loop-name
invariant-loop-name l =
    texts_said (members_view l.members.entries)
    ≡ with_left (texts_of l.texts.items) (texts_said (members_view l.name-iterator))
