use Rattle.std.proofs.Common.{ℕ, ◌+◌, ◌*◌, ◌≤◌}
use Rattle.cover.specs.Walking.{AllMovedAtMost}
use Rattle.cover.proofs.part_cover.sum_moves.Given as goal

abbrev pub invariant-loop-list : goal.invariant-loop-list
invariant-loop-list g l =
    (n : ℕ) → AllMovedAtMost n l.lists → l.sum ≤ l.fn.first + n * l.list-index
