-- Which number is kept for a double: a small whole one for itself, and every other pattern of bits
-- in a place of its own.
use Rattle.std.specs.Prelude.{◌≡◌, ℕ, ◌^◌, ◌≤◌, ℤ, unsigned_abs, ◌⊎◌}
use Rattle.std.specs.Int.{w64, cast_signed, cast_unsigned}
use Rattle.doubles.specs.Double.{IsWhole}

-- up to here every whole number is a double
abbrev pub IsSmall : ℤ → Type 0
IsSmall z = unsigned_abs z ≤ 2 ^ 53

-- the double with these bits is this small whole number, and it is not minus zero
pub record IsSmallWhole (bits : ℕ) (v : ℤ) : Type 0 where
  pub whole : IsWhole bits v
  pub small : IsSmall v
  pub not_minus_zero : bits ≡ 2 ^ 63 → ⊥

-- The bits are no small whole number's; as a signed number they are a small one, k, which is kept
-- for the double k. So what is kept are the bits of that double, as a signed number.
pub record IsSwapped (bits : ℕ) (z : ℤ) : Type 0 where
  pub none : (v : ℤ) → IsSmallWhole bits v → ⊥
  pub small : IsSmall (cast_signed w64 bits)
  pub bits_of : IsSmallWhole (cast_unsigned w64 z) (cast_signed w64 bits)

-- The bits are no small whole number's, nor a small signed number: they are kept as they stand.
pub record IsKept (bits : ℕ) (z : ℤ) : Type 0 where
  pub none : (v : ℤ) → IsSmallWhole bits v → ⊥
  pub large : IsSmall (cast_signed w64 bits) → ⊥
  pub same : z ≡ cast_signed w64 bits

-- z is kept for the double with these bits
abbrev pub IsStoredFor : ℕ → ℤ → Type 0
IsStoredFor bits z = IsSmallWhole bits z ⊎ (IsSwapped bits z ⊎ IsKept bits z)
