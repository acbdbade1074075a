use Rattle.kept_walk.specs.NumberedReading.{run_by}
use Rattle.kept_walk.proofs.LoopsBy.{IsReading}
use Rattle.kept_walk.proofs.numbers.each_run.Given as goal

abbrev pub invariant-loop-counter : goal.invariant-loop-counter
invariant-loop-counter l =
    IsReading run_by l.runs.items l.count l.counter (l.names, l.time) l.rest
    (l.fn.names, l.fn.time) l.bytes
