use Rattle.std.proofs.Common.{arith}
use Rattle.chunk_reader.proofs.Whole.{head_found, head_only}
use Rattle.chunk_reader.proofs.chunks.check_head.Goals as goal

pub returns-clause-found : goal.returns-clause-found
returns-clause-found c = head_found c.args.file.now c.read_head.result (λ i. omega (
  arith,
  c.type_inv.file i,
)) c.read_head.ensures

pub returns-clause-only : goal.returns-clause-only
returns-clause-only c s = head_only c.args.file.now c.read_head.result c.read_head.ensures s
