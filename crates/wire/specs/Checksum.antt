-- The checksum CRC-32C (Castagnoli), bit by bit.
use Rattle.std.specs.Prelude.{ℕ, zero, suc, ◌/◌, ◌%◌, ◌==◌, if◌then◌else◌, bit_xor, List, [], ◌∷◌}
use Rattle.std.specs.Prelude.{◌++◌}
use Rattle.byteorder.specs.Endian.{big_bytes}

-- The register without its lowest bit. Where that bit is 1, the reflected polynomial is added.
unfoldable pub shifted_once : ℕ → ℕ
shifted_once c = if c % 2 == 1 then bit_xor (c / 2) 0x82F6_3B78 else c / 2

-- the register after this many bits
unfoldable pub shifted : ℕ → ℕ → ℕ
shifted zero c = c
shifted (suc k) c = shifted k (shifted_once c)

-- the register after these bytes
unfoldable pub register : ℕ → List ℕ → ℕ
register c [] = c
register c (b ∷ bytes) = register (shifted 8 (bit_xor c b)) bytes

-- from a register of ones, and all its bits turned at the end
unfoldable pub crc32c : List ℕ → ℕ
crc32c bytes = bit_xor (register 0xFFFF_FFFF bytes) 0xFFFF_FFFF

-- content, and its checksum in the four bytes after it
abbrev pub checked : List ℕ → List ℕ
checked content = content ++ big_bytes 4 (crc32c content)
