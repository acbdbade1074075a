use Rattle.std.proofs.Common.{◌≡◌, ◌++◌, drop}
use Rattle.block_walk.specs.BlockFiles.Samples.{samples_in, undeleted}
use Rattle.block_walk.proofs.samples.samples_of.Given as goal

abbrev pub invariant-loop-chunk : goal.invariant-loop-chunk
invariant-loop-chunk l =
    l.found.items
    ++ undeleted l.tombstones l.reference (samples_in l.chunks (drop l.chunk-index l.list))
    ≡ undeleted l.tombstones l.reference (samples_in l.chunks l.list)
