use Rattle.std.proofs.Common.{arith}
use Rattle.block_writer.proofs.Pieces.{take_short, drop_short}
use Rattle.block_writer.proofs.chunks.first_piece.Goals as goal

pub returns-then-samples-le-PIECE-clause-front : goal.returns-then-samples-le-PIECE-clause-front
returns-then-samples-le-PIECE-clause-front c = take_short 120 c.args.samples.now (omega arith)

pub returns-then-samples-le-PIECE-clause-back : goal.returns-then-samples-le-PIECE-clause-back
returns-then-samples-le-PIECE-clause-back c = drop_short 120 c.args.samples.now (omega arith)
