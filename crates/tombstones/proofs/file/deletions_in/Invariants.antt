use Rattle.std.proofs.Common.{◌≡◌, ℕ, ◌≤◌, length}
use Rattle.tombstones.specs.Reading.{deletions_from}
use Rattle.tombstones.proofs.Loops.{with_front}
use Rattle.tombstones.proofs.file.deletions_in.Given as goal

abbrev pub invariant-loop-rest : goal.invariant-loop-rest
invariant-loop-rest l =
    (n : ℕ) × (length l.rest ≤ n) × (with_front l.deletions.items (deletions_from n l.rest)
    ≡ deletions_from (length l.entries) l.entries)

abbrev pub decreases-loop-rest : goal.decreases-loop-rest
decreases-loop-rest l = length l.rest
