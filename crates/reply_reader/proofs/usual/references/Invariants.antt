use Rattle.std.proofs.Common.{length}
use Rattle.reply_reader.specs.Replies.{reference_said}
use Rattle.reply_reader.proofs.UsualTexts.{ItemsSoFar}
use Rattle.reply_reader.proofs.usual.references.Given as goal

abbrev pub invariant-references : goal.invariant-references
invariant-references l = ItemsSoFar reference_said 0 l.initial.reader l.references.items l.reader

abbrev pub decreases-references : goal.decreases-references
decreases-references l = length l.reader
