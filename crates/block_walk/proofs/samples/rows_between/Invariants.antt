use Rattle.std.proofs.Common.{◌≡◌, ◌++◌, drop}
use Rattle.block_walk.specs.BlockFiles.Samples.{part_of}
use Rattle.block_walk.specs.BlockFiles.Shared.{stretch}
use Rattle.block_walk.proofs.samples.rows_between.Given as goal

abbrev pub invariant-loop-at : goal.invariant-loop-at
invariant-loop-at l =
    l.rows.items ++ drop l.at (stretch l.from l.count (part_of l.chunks l.tombstones l.entries))
    ≡ stretch l.from l.count (part_of l.chunks l.tombstones l.entries)
