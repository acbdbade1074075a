use Rattle.std.proofs.Common.{◌≡◌, ◌-◌, ◌≤◌, length, ℕ}
use Rattle.block_walk.specs.IndexFile.Reading.{entries_from}
use Rattle.block_walk.specs.IndexFile.Seen.{entries_seen}
use Rattle.block_walk.proofs.IndexFile.WalkLoops.{with_places}
use Rattle.block_walk.proofs.entries.entries_of.Given as goal

abbrev pub invariant-loop-at : goal.invariant-loop-at
invariant-loop-at l =
    (n : ℕ) × (l.end - l.at ≤ n)
    × (with_places (entries_seen l.entries.items) (entries_from n l.file l.end l.at)
    ≡ entries_from (length l.file) l.file l.end l.start)

abbrev pub decreases-loop-at : goal.decreases-loop-at
decreases-loop-at l = l.end - l.at
