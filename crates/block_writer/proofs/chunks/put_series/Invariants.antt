use Rattle.std.proofs.Common.{◌++◌, length}
use Rattle.std.specs.List.{All}
use Rattle.block_writer.specs.Typed.{IsOf64Bits}
use Rattle.block_writer.specs.Writing.{series_text}
use Rattle.block_writer.proofs.Pieces.{IsUnderWay}
use Rattle.block_writer.proofs.chunks.put_series.Given as goal

abbrev pub invariant-loop-rest : goal.invariant-loop-rest
invariant-loop-rest l = record {
  text : IsUnderWay l.out.items l.rest (l.initial.out.items ++ series_text l.samples);
  typed : All IsOf64Bits l.rest → All IsOf64Bits l.samples;
}

abbrev pub decreases-loop-rest : goal.decreases-loop-rest
decreases-loop-rest l = length l.rest
