use Rattle.std.proofs.Common.{◌≡◌, ◌-◌, true}
use Rattle.labels.specs.Contents.{is_time}
use Rattle.block_walk.specs.IndexFile.Steps.{steps, with_front}
use Rattle.block_walk.specs.IndexFile.Bodies.{chunk_at}
use Rattle.block_walk.proofs.body.more_chunks.Given as goal

abbrev pub invariant-loop : goal.invariant-loop
invariant-loop l = record {
  times : is_time l.before.maxt ≡ true;
  so_far : with_front l.chunks.items (steps chunk_at (l.count - l.counter) (l.before, l.rest))
      ≡ with_front l.fn.chunks.items (steps chunk_at l.count (l.fn.first, l.bytes));
}
