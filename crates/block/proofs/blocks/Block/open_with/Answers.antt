use Rattle.std.proofs.Common.{arith}
use Rattle.block.proofs.Whole.{is_only}
use Rattle.block.proofs.blocks.Block.open_with.Goals as goal

pub returns-clause-found : goal.returns-clause-found
returns-clause-found g c = c.open_with_checker.ensures.found

pub returns-clause-only : goal.returns-clause-only
returns-clause-only g c part x =
    is_only c.args.range c.args.index.now c.args.chunks.items c.args.tombstones.now part
    c.open_with_checker.result (λ i. omega (arith, c.type_inv.index i))
    (λ i. omega (arith, c.type_inv.tombstones i)) c.open_with_checker.ensures.exact x
