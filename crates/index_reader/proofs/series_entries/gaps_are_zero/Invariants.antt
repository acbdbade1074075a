use Rattle.std.proofs.Common.{◌≡◌, drop}
use Rattle.index_reader.specs.Reading.Entries.{gaps_zero}
use Rattle.index_reader.specs.Seen.{entries_seen}
use Rattle.index_reader.proofs.series_entries.gaps_are_zero.Given as goal

abbrev pub invariant-loop-at : goal.invariant-loop-at
invariant-loop-at l =
    gaps_zero l.file l.fn.end l.from (drop l.at (entries_seen l.entries))
    ≡ gaps_zero l.file l.fn.end l.fn.first (entries_seen l.entries)
