use Rattle.std.proofs.Common.{refl}
use Rattle.std.proofs.lemmas.Option.{slice_get-get_or}
use Rattle.block_walk.specs.BlockFiles.Sound.{IsHeld}
use Rattle.block_walk.proofs.BlockFiles.Rows.{held_there, chunk_on, chunks_end}
use Rattle.block_walk.proofs.samples.samples_of.Goals as goal

pub loop-chunk-init : goal.loop-chunk-init
loop-chunk-init c = rw c.new-found.ensures.items refl

pub chunk_samples-requires : goal.chunk_samples-requires
chunk_samples-requires c =
    held_there (IsHeld c.args.chunks.now) c.args.list.now c.loop-chunk.chunk-index _ c.requires
    (slice_get-get_or c.args.list.now c.loop-chunk.chunk-index _ c.loop-chunk-test.true)

pub loop-chunk-preserved : goal.loop-chunk-preserved
loop-chunk-preserved c =
    let l = c.loop-chunk in
    let at = slice_get-get_or c.args.list.now l.chunk-index _ c.loop-chunk-test.true in
    let e = rw c.chunk_samples.ensures at c.in_ok-push_undeleted.ensures in
    chunk_on c.args.tombstones.now c.args.reference c.args.chunks.now c.args.list.now l.chunk-index
    _ l.found.items _ _ at e l.invariant

pub returns : goal.returns
returns c =
    chunks_end c.args.tombstones.now c.args.reference c.args.chunks.now c.args.list.now
    c.loop-chunk.chunk-index c.loop-chunk.found.items _ c.loop-chunk-test.false
    c.loop-chunk.invariant
