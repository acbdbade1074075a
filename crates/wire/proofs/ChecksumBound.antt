-- The checksum of bytes is a number of 32 bits.
use Rattle.std.proofs.Common.{ℕ, zero, suc, ◌/◌, ◌%◌, ◌^◌, ◌<◌, Bool, true, false, cond, eqb, List}
use Rattle.std.proofs.Common.{[], ◌∷◌, arith, bit_xor}
use Rattle.std.proofs.lemmas.Nat.{xor_lt}
use Rattle.wire.specs.Spelling.{IsBytes}
use Rattle.wire.specs.Checksum.{shifted_once, shifted, register, crc32c}

chosen_below : (b : Bool) (x y n : ℕ) → x < n → y < n → cond b x y < n
chosen_below true x y n p q = p
chosen_below false x y n p q = q

once_below : (c : ℕ) → c < 2 ^ 32 → shifted_once c < 2 ^ 32
unfolding shifted_once
once_below c lt =
    chosen_below (eqb (c % 2) 1) _ _ (2 ^ 32)
    (xor_lt 32 (c / 2) 0x82F6_3B78 (omega arith) (omega arith)) (omega arith)

shifted_below : (k c : ℕ) → c < 2 ^ 32 → shifted k c < 2 ^ 32
unfolding shifted
shifted_below zero c lt = lt
shifted_below (suc k) c lt = shifted_below k (shifted_once c) (once_below c lt)

register_below : (c : ℕ) (bytes : List ℕ) → c < 2 ^ 32 → IsBytes bytes → register c bytes < 2 ^ 32
unfolding register
register_below c [] lt fits = lt
register_below c (b ∷ bytes) lt fits =
    register_below (shifted 8 (bit_xor c b)) bytes
    (shifted_below 8 (bit_xor c b) (xor_lt 32 c b lt (omega (arith, fits 0)))) (λ i. fits (suc i))

pub crc32c_below : (bytes : List ℕ) → IsBytes bytes → crc32c bytes < 2 ^ 32
unfolding crc32c
crc32c_below bytes fits =
    xor_lt 32 (register 0xFFFF_FFFF bytes) 0xFFFF_FFFF
    (register_below 0xFFFF_FFFF bytes (omega arith) fits) (omega arith)
