use Rattle.block.specs.Samples.{chunk_samples}
use Rattle.block.specs.Shared.{lists_between}
use Rattle.block.proofs.Packs.{IsPackedTo}
use Rattle.block.proofs.packing.pack_between.Given as goal

abbrev pub invariant-loop-i : goal.invariant-loop-i
invariant-loop-i l =
    IsPackedTo (chunk_samples l.chunks) (lists_between l.index.series l.from l.count) l.i
    l.starts.items l.packed
