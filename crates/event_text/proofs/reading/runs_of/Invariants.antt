use Rattle.std.proofs.Common.{◌≡◌, ◌-◌}
use Rattle.event_text.specs.Reading.{run_at, each_at}
use Rattle.event_text.proofs.Loops.{with_front}
use Rattle.event_text.proofs.reading.runs_of.Given as goal

abbrev pub invariant-loop-counter : goal.invariant-loop-counter
invariant-loop-counter l =
    with_front l.runs.items (each_at run_at (l.count - l.counter) l.rest)
    ≡ each_at run_at l.count l.bytes
