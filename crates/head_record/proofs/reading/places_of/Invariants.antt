use Rattle.std.proofs.Common.{◌≡◌, ◌-◌}
use Rattle.event_text.specs.Reading.{each_at}
use Rattle.head_record.specs.Reading.{place_at}
use Rattle.event_text.proofs.Loops.{with_front}
use Rattle.head_record.proofs.reading.places_of.Given as goal

abbrev pub invariant-loop-counter : goal.invariant-loop-counter
invariant-loop-counter l =
    with_front l.places.items (each_at place_at (l.count - l.counter) l.rest)
    ≡ each_at place_at l.count l.bytes
