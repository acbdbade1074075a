use Rattle.kept_walk.specs.Reading.{run_at}
use Rattle.kept_walk.proofs.Loops.{IsReading}
use Rattle.kept_walk.proofs.fields.each_run.Given as goal

abbrev pub invariant-loop-counter : goal.invariant-loop-counter
invariant-loop-counter l = IsReading run_at (l.runs.items) l.count l.counter l.rest l.bytes
