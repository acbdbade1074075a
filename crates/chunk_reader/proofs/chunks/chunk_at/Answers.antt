use Rattle.std.proofs.Common.{arith}
use Rattle.std.specs.Int.{w64}
use Rattle.std.proofs.lemmas.Int.{to_z-of_z}
use Rattle.chunk_reader.proofs.Whole.{is_found, is_only}
use Rattle.chunk_reader.proofs.chunks.chunk_at.Goals as goal

pub returns-clause-found : goal.returns-clause-found
returns-clause-found c =
    is_found c.args.file.now c.args.reference _ _ c.args.mint c.args.maxt c.samples_of.result
    (to_z-of_z w64 c.args.mint c.ranges.mint) (to_z-of_z w64 c.args.maxt c.ranges.maxt)
    (λ i. omega (arith, c.type_inv.file i)) c.samples_of.ensures

pub returns-clause-only : goal.returns-clause-only
returns-clause-only c samples x =
    is_only c.args.file.now c.args.reference _ _ c.args.mint c.args.maxt c.samples_of.result samples
    (to_z-of_z w64 c.args.mint c.ranges.mint) (to_z-of_z w64 c.args.maxt c.ranges.maxt)
    c.samples_of.ensures x
