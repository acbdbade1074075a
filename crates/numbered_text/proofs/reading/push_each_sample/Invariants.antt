use Rattle.std.proofs.Common.{◌≡◌, ◌-◌}
use Rattle.numbered_text.specs.Each.{each_at, with_front}
use Rattle.numbered_text.specs.Reading.{sample_at}
use Rattle.numbered_text.proofs.reading.push_each_sample.Given as goal

abbrev pub invariant-loop-counter : goal.invariant-loop-counter
invariant-loop-counter l =
    with_front l.out.items (each_at sample_at (l.count - l.counter) l.time l.rest)
    ≡ with_front l.fn.out.items (each_at sample_at l.count l.fn.time l.bytes)
