use Rattle.kept_walk.specs.NumberedReading.{later_at}
use Rattle.kept_walk.proofs.LoopsBy.{IsReading}
use Rattle.kept_walk.proofs.numbers.each_later.Given as goal

abbrev pub invariant-loop-counter : goal.invariant-loop-counter
invariant-loop-counter l =
    IsReading later_at l.samples.items l.count l.counter l.time l.rest l.fn.time l.bytes
