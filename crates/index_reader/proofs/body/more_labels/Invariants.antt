use Rattle.std.proofs.Common.{◌≡◌, ◌-◌}
use Rattle.index_reader.specs.Seen.{bytes_of}
use Rattle.index_reader.specs.Reading.Steps.{steps, with_front}
use Rattle.index_reader.specs.Reading.Bodies.{label_at}
use Rattle.index_reader.proofs.body.more_labels.Given as goal

abbrev pub invariant-loop : goal.invariant-loop
invariant-loop l =
    let step = label_at (bytes_of l.symbols.texts.items) in
    with_front l.labels.items (steps step (l.count - l.counter) (l.low, l.cut))
    ≡ with_front l.fn.labels.items (steps step l.count (0, l.fn.cut))
