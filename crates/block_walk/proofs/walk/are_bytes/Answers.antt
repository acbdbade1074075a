use Rattle.std.proofs.Common.{arith}
use Rattle.block_walk.proofs.walk.are_bytes.Goals as goal

pub returns : goal.returns
returns c = λ i. omega (arith, c.type_inv.file i)
