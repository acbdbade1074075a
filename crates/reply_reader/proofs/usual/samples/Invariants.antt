use Rattle.std.proofs.Common.{length}
use Rattle.reply_reader.specs.Replies.{sample_said}
use Rattle.reply_reader.proofs.UsualTexts.{ItemsSoFar}
use Rattle.reply_reader.proofs.usual.samples.Given as goal

abbrev pub invariant-samples : goal.invariant-samples
invariant-samples l = ItemsSoFar sample_said 1 l.initial.reader l.samples.items l.reader

abbrev pub decreases-samples : goal.decreases-samples
decreases-samples l = length l.reader
