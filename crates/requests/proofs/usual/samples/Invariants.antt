use Rattle.std.proofs.Common.{length}
use Rattle.requests.specs.Rows.{samples_in}
use Rattle.requests.proofs.UsualTexts.{ItemsSoFar}
use Rattle.requests.proofs.usual.samples.Given as goal

abbrev pub invariant-samples : goal.invariant-samples
invariant-samples l = ItemsSoFar samples_in 1 l.initial.reader l.samples.items l.reader

abbrev pub decreases-samples : goal.decreases-samples
decreases-samples l = length l.reader
