use Rattle.labels.specs.Pairs.{texts_of}
use Rattle.kept_walk.specs.Reading.{pair_at}
use Rattle.kept_walk.proofs.Loops.{IsReading}
use Rattle.kept_walk.proofs.fields.each_pair.Given as goal

abbrev pub invariant-loop-counter : goal.invariant-loop-counter
invariant-loop-counter l = IsReading pair_at (texts_of l.pairs.items) l.count l.counter l.rest l.bytes
