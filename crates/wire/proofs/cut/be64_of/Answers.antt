use Rattle.std.proofs.Common.{◌≡◌, take, arith}
use Rattle.byteorder.specs.Endian.{big_bytes}
use Rattle.wire.proofs.Fields.{big_bytes_8, front_found}
use Rattle.wire.proofs.cut.be64_of.Goals as goal

pub returns-clause-found : goal.returns-clause-found
returns-clause-found c =
    let bytes = c.args.bytes.now in
    let text : big_bytes 8 c.read_u64.result ≡ take 8 bytes =
    rw c.read_u64.ensures
    (big_bytes_8 bytes (λ i. omega (arith, c.type_inv.bytes i)) (omega arith)) in
    rw c.split_at.ensures.back (front_found 8 bytes (big_bytes 8 c.read_u64.result) text)
