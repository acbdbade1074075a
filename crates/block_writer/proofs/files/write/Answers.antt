use Rattle.std.proofs.Common.{arith}
use Rattle.block_writer.proofs.WrittenBlock.{written_block}
use Rattle.block_writer.proofs.files.write.Goals as goal

pub returns-clause-block : goal.returns-clause-block
returns-clause-block c = λ range is_range within.
    written_block c.args.rows.now c.in_ok-index.index.items c.in_ok-chunks.chunks.items
    c.in_ok-tombstones.tombstones.items c.in_ok-index.ensures.part c.in_ok-index.ensures.typed
    c.in_ok-chunks.ensures.typed c.in_ok-index.ensures.written
    c.in_ok-chunks.ensures.spelled c.in_ok-tombstones.ensures c.in_ok-index.ensures.short
    (omega (arith, c.len.ensures, c.in_ok-chunks.chunks.ok.0)) range is_range within
