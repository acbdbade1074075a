-- Numbers of seven bits a byte, the lowest first, as Protocol Buffers and Snappy spell them. A
-- number may have bytes to spare.
use Rattle.std.specs.Prelude.{◌≡◌, ℕ, suc, ◌+◌, ◌-◌, ◌*◌, ◌^◌, ◌<◌, ◌≤◌, List, [], ◌∷◌, length}
use Rattle.std.specs.Prelude.{Result, Ok, Err, nat_lt, ◌==◌, ◌&&◌, if◌then◌else◌}
use Rattle.varints.specs.declared.error.VarintError.{VarintError}
use Rattle.varints.specs.declared.error.VarintError.TheVariants.{Short, TooBig}

-- The bytes stand for the number: the last is below 128 and is itself, and each before it has 128
-- above its seven bits.
abbrev pub Spells : List ℕ → ℕ → Type 0
Spells [] n = ⊥
Spells (b ∷ []) n = (b < 128) × (n ≡ b)
Spells (b ∷ c ∷ bytes) n =
    (128 ≤ b) × (b < 256) × (high : ℕ) × (n + 128 ≡ b + 128 * high) × Spells (c ∷ bytes) high

-- in ten bytes at most, a number of 64 bits
pub record IsVarint (bytes : List ℕ) (n : ℕ) : Type 0 where
  pub spelled : Spells bytes n
  pub length : length bytes ≤ 10
  pub fits : n < 2 ^ 64

-- seven bits below a number that is read after them
abbrev pub below : ℕ → Result (ℕ × List ℕ) VarintError → Result (ℕ × List ℕ) VarintError
below low (Ok x) = Ok (low + 128 * x.0, x.1)
below low (Err e) = Err e

-- the number of which this many bytes stand before
unfoldable pub groups_at : ℕ → List ℕ → Result (ℕ × List ℕ) VarintError
groups_at before [] = Err Short
groups_at before (b ∷ rest) =
    if before == 9 && nat_lt 1 b then Err TooBig
    else if nat_lt b 128 then Ok (b, rest)
    else below (b - 128) (groups_at (suc before) rest)

-- the number in front, and the bytes after it; or the first fault
unfoldable pub varint_at : List ℕ → Result (ℕ × List ℕ) VarintError
varint_at bytes = groups_at 0 bytes
