use Rattle.std.proofs.Common.{◌≡◌, drop}
use Rattle.block_walk.specs.IndexFile.Flat.{gaps_zero}
use Rattle.block_walk.specs.IndexFile.Seen.{entries_seen}
use Rattle.block_walk.proofs.bodies.gaps_are_zero.Given as goal

abbrev pub invariant-loop-at : goal.invariant-loop-at
invariant-loop-at l =
    gaps_zero l.file l.fn.end l.from (drop l.at (entries_seen l.entries))
    ≡ gaps_zero l.file l.fn.end l.fn.first (entries_seen l.entries)
