use Rattle.std.proofs.Common.{◌≡◌, ◌+◌, length, w64, FitsSigned, rules, of_z, ap, ℕ}
use Rattle.std.proofs.lemmas.Int.{to_z-of_z}
use Rattle.wire.specs.Spelling.{uvarint}
use Rattle.remote_write.specs.Reading.{sample_seen}
use Rattle.remote_write.proofs.Written.{sample_length}
use Rattle.remote_write.proofs.put.sample_len.Goals as goal

pub returns : goal.returns
returns c =
    let time = c.args.sample.time in
    let fits : FitsSigned w64 time = search rules in
    let bits : c.cast_unsigned.result ≡ of_z w64 time =
    rw (to_z-of_z w64 time fits) at c.cast_unsigned.ensures in
    let len : c.varint_len.result ≡ length (uvarint (of_z w64 time)) =
    rw bits at c.varint_len.ensures.exact in
    sample_length (sample_seen c.args.sample) _ (ap (λ (n : ℕ). 10 + n) len)
