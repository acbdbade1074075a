use Rattle.std.proofs.Common.{◌≡◌, ◌-◌}
use Rattle.block_walk.specs.IndexFile.Seen.{texts}
use Rattle.block_walk.specs.IndexFile.Steps.{steps, with_front}
use Rattle.block_walk.specs.IndexFile.Bodies.{label_at}
use Rattle.block_walk.proofs.body.more_labels.Given as goal

abbrev pub invariant-loop : goal.invariant-loop
invariant-loop l =
    with_front l.labels.items (steps (label_at (texts l.symbols)) (l.count - l.counter) (
      l.low,
      l.rest,
    )) ≡ with_front l.fn.labels.items (steps (label_at (texts l.symbols)) l.count (0, l.bytes))
