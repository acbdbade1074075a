use Rattle.std.proofs.Common.{length, map}
use Rattle.reply_reader.specs.Replies.{part_said, told_of_part}
use Rattle.reply_reader.proofs.UsualTexts.{ItemsSoFar}
use Rattle.reply_reader.proofs.usual.parts.Given as goal

abbrev pub invariant-parts : goal.invariant-parts
invariant-parts l =
    ItemsSoFar part_said 5 l.initial.reader (map told_of_part l.parts.items) l.reader

abbrev pub decreases-parts : goal.decreases-parts
decreases-parts l = length l.reader
