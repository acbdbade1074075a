use Rattle.std.proofs.Common.{length}
use Rattle.reply_reader.specs.Replies.{interval_said}
use Rattle.reply_reader.proofs.UsualTexts.{ItemsSoFar}
use Rattle.reply_reader.proofs.usual.intervals.Given as goal

abbrev pub invariant-intervals : goal.invariant-intervals
invariant-intervals l = ItemsSoFar interval_said 1 l.initial.reader l.intervals.items l.reader

abbrev pub decreases-intervals : goal.decreases-intervals
decreases-intervals l = length l.reader
