use Rattle.std.proofs.Common.{length}
use Rattle.reply_reader.specs.Replies.{row_said}
use Rattle.reply_reader.proofs.UsualTexts.{ItemsSoFar}
use Rattle.reply_reader.proofs.usual.rows.Given as goal

abbrev pub invariant-rows : goal.invariant-rows
invariant-rows l = ItemsSoFar row_said 3 l.initial.reader l.rows.items l.reader

abbrev pub decreases-rows : goal.decreases-rows
decreases-rows l = length l.reader
