use Rattle.kept_walk.specs.Reading.{sample_at}
use Rattle.kept_walk.proofs.Loops.{IsReading}
use Rattle.kept_walk.proofs.fields.each_sample.Given as goal

abbrev pub invariant-loop-counter : goal.invariant-loop-counter
invariant-loop-counter l = IsReading sample_at (l.samples.items) l.count l.counter l.rest l.bytes
