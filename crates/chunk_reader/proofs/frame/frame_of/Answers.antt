use Rattle.std.proofs.Common.{arith}
use Rattle.chunk_reader.proofs.Framing.{frame_found, frame_only}
use Rattle.chunk_reader.proofs.frame.frame_of.Goals as goal

pub returns-clause-found : goal.returns-clause-found
returns-clause-found c =
    frame_found (λ f. f.encoding) (λ f. f.body.now) c.args.file.now c.args.reference
    c.read_frame.result (λ i. omega (arith, c.type_inv.file i)) c.read_frame.ensures

pub returns-clause-only : goal.returns-clause-only
returns-clause-only c encoding body x =
    frame_only (λ f. (f.encoding, f.body.now)) c.args.file.now c.args.reference encoding body
    c.read_frame.result (λ i. omega (arith, c.type_inv.file i)) (omega (arith, c.requires)) x
    c.read_frame.ensures
