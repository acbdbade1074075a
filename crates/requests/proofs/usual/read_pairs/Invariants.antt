use Rattle.std.proofs.Common.{length}
use denote.Text.{Utf8}
use denote.Shadow.{shadow}
use Rattle.labels.specs.Pairs.{texts_of}
use Rattle.requests.proofs.UsualLabels.{LabelsSoFar}
use Rattle.requests.proofs.UsualTexts.{PairsSoFar}
use Rattle.requests.proofs.usual.read_pairs.Given as goal

abbrev pub invariant-pairs : goal.invariant-pairs
invariant-pairs l =
    shadow (Utf8 l.last) × PairsSoFar l.initial.reader (texts_of l.pairs.items) l.reader
    × LabelsSoFar l.last (texts_of l.pairs.items)

abbrev pub decreases-pairs : goal.decreases-pairs
decreases-pairs l = length l.reader
