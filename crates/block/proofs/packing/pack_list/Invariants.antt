use Rattle.std.proofs.Common.{◌≡◌, ◌++◌, map, take}
use Rattle.block.specs.Samples.{chunk_samples}
use Rattle.block.proofs.packing.pack_list.Given as goal

abbrev pub invariant-loop-chunk : goal.invariant-loop-chunk
invariant-loop-chunk l =
    l.packed ≡ l.fn.packed ++ map (chunk_samples l.chunks) (take l.chunk-index l.list)
