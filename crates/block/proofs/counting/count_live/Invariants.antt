use Rattle.std.proofs.Common.{◌≡◌, ◌-◌, ◌^◌, min, take}
use Rattle.block.specs.Blocks.{part_of_series, sample_count}
use Rattle.block.specs.Kept.{source_in}
use Rattle.block.proofs.counting.count_live.Given as goal

abbrev pub invariant-loop-at : goal.invariant-loop-at
invariant-loop-at l =
    l.count ≡ min (sample_count (part_of_series (source_in l.files) l.tombstones
    (take l.at l.files.index.series))) (2 ^ 64 - 1)
