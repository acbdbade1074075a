use Rattle.std.proofs.Common.{◌≡◌, ◌-◌, ◌≤◌, length, ℕ}
use Rattle.index_reader.specs.Reading.Entries.{entries_from}
use Rattle.index_reader.specs.Seen.{entries_seen}
use Rattle.index_reader.proofs.WalkLoops.{with_places}
use Rattle.index_reader.proofs.series_entries.entries_of.Given as goal

abbrev pub invariant-loop-at : goal.invariant-loop-at
invariant-loop-at l =
    (n : ℕ) × (l.end - l.at ≤ n)
    × (with_places (entries_seen l.entries.items) (entries_from n l.file l.end l.at)
    ≡ entries_from (length l.file) l.file l.end l.start)

abbrev pub decreases-loop-at : goal.decreases-loop-at
decreases-loop-at l = l.end - l.at
