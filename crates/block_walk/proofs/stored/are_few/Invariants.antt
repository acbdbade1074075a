use Rattle.std.proofs.Common.{◌≡◌, ◌-◌, ◌^◌, length, min, take, drop}
use Rattle.std.specs.List.{AllByRecursion}
use Rattle.block_walk.specs.BlockFiles.Reading.{each_check, chunk_check}
use Rattle.block_walk.specs.BlockFiles.Samples.{samples_in}
use Rattle.block_walk.specs.BlockFiles.Sound.{IsHeld}
use Rattle.block_walk.proofs.stored.are_few.Given as goal

abbrev pub invariant-loop-chunk : goal.invariant-loop-chunk
invariant-loop-chunk l = record {
  so_far : each_check (chunk_check l.chunks) (drop l.chunk-index l.list)
      ≡ each_check (chunk_check l.chunks) l.list;
  held : AllByRecursion (IsHeld l.chunks) (take l.chunk-index l.list);
  counted : l.count ≡ min (length (samples_in l.chunks (take l.chunk-index l.list))) (2 ^ 64 - 1);
}
