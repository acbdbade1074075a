use Rattle.std.proofs.Common.{rules}
use Rattle.reply_reader.proofs.Replying.{counts_items}
use Rattle.reply_reader.proofs.reading.has_items.Goals as goal

pub returns-in-Some : goal.returns-in-Some
returns-in-Some c = counts_items _ _ _ c.in-Some.items.now.items c.in-Some.ensures (search rules)
