use Rattle.std.proofs.Common.{◌≡◌, ◌-◌, ◌^◌, length, min, take, drop}
use Rattle.std.specs.List.{AllByRecursion}
use Rattle.block.specs.Opening.{each, chunk_check}
use Rattle.block.specs.Samples.{chunk_samples, samples_in}
use Rattle.block.specs.Sound.{IsReadChunk}
use Rattle.block.proofs.checking.are_few.Given as goal

abbrev pub invariant-loop-chunk : goal.invariant-loop-chunk
invariant-loop-chunk l = record {
  so_far : each (chunk_check l.chunks) (drop l.chunk-index l.list)
      ≡ each (chunk_check l.chunks) l.list;
  held : AllByRecursion (IsReadChunk l.chunks) (take l.chunk-index l.list);
  counted : l.count ≡ min (length (samples_in (chunk_samples l.chunks) (take l.chunk-index l.list))) (2 ^ 64 - 1);
}
