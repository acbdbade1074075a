use Rattle.std.proofs.Common.{◌≡◌, ◌++◌, drop}
use Rattle.block_walk.specs.BlockFiles.Samples.{undeleted}
use Rattle.block_walk.proofs.samples.push_each.Given as goal

abbrev pub invariant-loop-i : goal.invariant-loop-i
invariant-loop-i l =
    l.found.items ++ undeleted l.tombstones l.reference (drop l.i l.samples)
    ≡ l.fn.found.items ++ undeleted l.tombstones l.reference l.samples
