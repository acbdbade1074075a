use Rattle.reply_reader.proofs.Replying.{counts_members}
use Rattle.reply_reader.proofs.reading.has_members.Goals as goal

pub returns-in-Some : goal.returns-in-Some
returns-in-Some c =
    counts_members _ _ _ c.in-Some.members.now.entries c.in-Some.ensures c.len.ensures.len
