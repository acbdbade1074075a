use Rattle.std.proofs.Common.{◌≡◌, ◌-◌}
use Rattle.labels.specs.Pairs.{texts_of}
use Rattle.event_text.specs.Reading.{pair_at, each_at}
use Rattle.event_text.proofs.Loops.{with_front}
use Rattle.event_text.proofs.reading.pairs_of.Given as goal

abbrev pub invariant-loop-counter : goal.invariant-loop-counter
invariant-loop-counter l =
    with_front (texts_of l.pairs.items) (each_at pair_at (l.count - l.counter) l.rest)
    ≡ each_at pair_at l.count l.bytes
