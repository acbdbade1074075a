use Rattle.std.proofs.Common.{length}
use denote.Text.{Utf8}
use denote.Shadow.{shadow}
use Rattle.labels.specs.Pairs.{texts_of}
use Rattle.reply_reader.proofs.UsualTexts.{PairsSoFar}
use Rattle.reply_reader.proofs.usual.pairs.Given as goal

abbrev pub invariant-pairs : goal.invariant-pairs
invariant-pairs l =
    shadow (Utf8 l.last) × PairsSoFar l.initial.reader l.last (texts_of l.pairs.items) l.reader

abbrev pub decreases-pairs : goal.decreases-pairs
decreases-pairs l = length l.reader
