use Rattle.std.proofs.Common.{◌≡◌, ◌-◌}
use Rattle.event_text.specs.Views.{matchers_in}
use Rattle.event_text.specs.Reading.{matcher_at, each_at}
use Rattle.event_text.proofs.Loops.{with_front}
use Rattle.event_text.proofs.reading.matchers_of.Given as goal

abbrev pub invariant-loop-counter : goal.invariant-loop-counter
invariant-loop-counter l =
    with_front (matchers_in l.matchers.items) (each_at matcher_at (l.count - l.counter) l.rest)
    ≡ each_at matcher_at l.count l.bytes
