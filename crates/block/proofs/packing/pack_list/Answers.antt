use Rattle.std.proofs.Common.{arith}
use Rattle.block.specs.Samples.{chunk_samples}
use Rattle.block.specs.Sound.{IsReadChunk}
use Rattle.block.proofs.Packs.{list_next}
use Rattle.block.proofs.Passing.{held_at}
use Rattle.block.proofs.packing.pack_list.Goals as goal

pub pack_chunk-requires : goal.pack_chunk-requires
pack_chunk-requires c =
    held_at (IsReadChunk c.args.chunks.now) c.args.list.now c.loop-chunk.chunk-index _
    (omega arith) c.requires

pub loop-chunk-preserved : goal.loop-chunk-preserved
loop-chunk-preserved c =
    list_next (chunk_samples c.args.chunks.now) c.args.list.now c.loop-chunk.chunk-index _
    c.args.packed.now c.loop-chunk.packed _ (omega arith) c.in_ok-pack_chunk.ensures
    c.loop-chunk.invariant
