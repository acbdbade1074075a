use Rattle.std.proofs.Common.{◌≡◌, take, arith}
use Rattle.byteorder.specs.Endian.{big_bytes}
use Rattle.wire.proofs.Fields.{big_bytes_4, front_found}
use Rattle.wire.proofs.cut.be32_of.Goals as goal

pub returns-clause-found : goal.returns-clause-found
returns-clause-found c =
    let bytes = c.args.bytes.now in
    let text : big_bytes 4 c.read_u32.result ≡ take 4 bytes =
    rw c.read_u32.ensures
    (big_bytes_4 bytes (λ i. omega (arith, c.type_inv.bytes i)) (omega arith)) in
    rw c.split_at.ensures.back (front_found 4 bytes (big_bytes 4 c.read_u32.result) text)
