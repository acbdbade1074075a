use Rattle.kept_walk.specs.Reading.{place_at}
use Rattle.kept_walk.proofs.Loops.{IsReading}
use Rattle.kept_walk.proofs.fields.each_place.Given as goal

abbrev pub invariant-loop-counter : goal.invariant-loop-counter
invariant-loop-counter l = IsReading place_at (l.places.items) l.count l.counter l.rest l.bytes
