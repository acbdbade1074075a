use Rattle.kept_walk.specs.Parts.{matchers_in}
use Rattle.kept_walk.specs.Reading.{matcher_at}
use Rattle.kept_walk.proofs.Loops.{IsReading}
use Rattle.kept_walk.proofs.fields.each_matcher.Given as goal

abbrev pub invariant-loop-counter : goal.invariant-loop-counter
invariant-loop-counter l = IsReading matcher_at (matchers_in l.matchers.items) l.count l.counter l.rest l.bytes
