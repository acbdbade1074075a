use Rattle.std.proofs.Common.{◌+◌, length}
use Rattle.block_writer.specs.Writing.{series_text}
use Rattle.block_writer.specs.EntryBodies.{chunks_of}
use Rattle.block_writer.proofs.Placing.{IsPlaced}
use Rattle.block_writer.proofs.body.chunks_of.Given as goal

abbrev pub invariant-loop-rest : goal.invariant-loop-rest
invariant-loop-rest l =
    IsPlaced l.chunks.items l.place l.rest (chunks_of l.at l.samples)
    (l.at + length (series_text l.samples))

abbrev pub decreases-loop-rest : goal.decreases-loop-rest
decreases-loop-rest l = length l.rest
