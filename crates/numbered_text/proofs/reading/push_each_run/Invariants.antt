use Rattle.std.proofs.Common.{◌≡◌, ◌-◌}
use Rattle.numbered_text.specs.Each.{each_at, with_front}
use Rattle.numbered_text.specs.Reading.{run_at}
use Rattle.numbered_text.proofs.reading.push_each_run.Given as goal

abbrev pub invariant-loop-counter : goal.invariant-loop-counter
invariant-loop-counter l =
    with_front l.out.items (each_at run_at (l.count - l.counter) (l.names, l.time) l.rest)
    ≡ with_front l.fn.out.items (each_at run_at l.count (l.fn.names, l.fn.time) l.bytes)
