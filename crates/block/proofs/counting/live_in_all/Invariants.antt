use Rattle.std.proofs.Common.{◌≡◌, ◌-◌, ◌^◌, length, min, take}
use Rattle.block.specs.Kept.{source_in}
use Rattle.block.specs.Samples.{samples_in, undeleted}
use Rattle.block.proofs.counting.live_in_all.Given as goal

abbrev pub invariant-loop-k : goal.invariant-loop-k
invariant-loop-k l =
    l.count ≡ min (length (undeleted l.tombstones l.reference
    (samples_in (source_in l.files) (take l.k l.list)))) (2 ^ 64 - 1)
