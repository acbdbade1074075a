-- The tombstones file in which nothing is deleted.
use Rattle.std.proofs.Common.{◌≡◌, ℕ, List, [], ◌∷◌, length, ap, arith}
use Rattle.wire.specs.Checksum.{crc32c, register}
use Rattle.tombstones.specs.Grammar.{IsTombstones}

pub nothing_deleted : (file : List ℕ) → file ≡ 0x01 ∷ 0x30 ∷ 0xBA ∷ 0x30 ∷ 1 ∷ 0 ∷ 0 ∷ 0 ∷ 0 ∷ []
    → IsTombstones file []
unfolding crc32c register
nothing_deleted file e =
    let size : length file ≡ 9 = ap length e in
    record { short = omega (arith, size); text = e; sound = tt }
