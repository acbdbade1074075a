use Rattle.std.specs.List.{AllByRecursion}
use Rattle.block_walk.specs.IndexFile.Series.{chunk_lists}
use Rattle.block_walk.specs.BlockFiles.Sound.{IsHeld}
use Rattle.block_walk.proofs.BlockFiles.Rows.{held_there, row_there}
use Rattle.block_walk.proofs.samples.row_at.Goals as goal

pub samples_of-requires : goal.samples_of-requires
samples_of-requires c =
    held_there (AllByRecursion (IsHeld c.args.chunks.now)) (chunk_lists c.args.entries.now) c.args.i
    _ c.requires.held c.chunks_at.ensures

pub returns : goal.returns
returns c =
    rw c.new.ensures (row_there c.args.chunks.now c.args.tombstones.now c.args.entries.now c.args.i
    c.reference_at-reference.result c.in_ok-labels.labels _ c.in_ok-samples.samples.items
    c.reference_at-reference.ensures c.in_ok-labels.ensures c.chunks_at.ensures
    c.in_ok-samples.ensures)
