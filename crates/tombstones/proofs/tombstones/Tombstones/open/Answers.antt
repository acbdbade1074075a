use Rattle.std.proofs.Common.{arith}
use Rattle.tombstones.proofs.Whole.{is_found, is_only}
use Rattle.tombstones.proofs.tombstones.Tombstones.open.Goals as goal

pub returns-clause-found : goal.returns-clause-found
returns-clause-found c =
    is_found c.args.file.now c.open.result (λ i. omega (arith, c.type_inv.file i)) c.open.ensures

pub returns-clause-only : goal.returns-clause-only
returns-clause-only c deletions x =
    is_only c.args.file.now c.open.result deletions
    (λ i. omega (arith, c.type_inv.file i)) c.open.ensures x
