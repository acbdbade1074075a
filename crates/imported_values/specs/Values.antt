-- Doubles as whole numbers of parts, and what becomes of the others.
use Rattle.std.specs.Prelude.{◌≡◌, ◌⊎◌, ℕ, ℤ, ◌^◌, ◌<◌, ◌*ℤ◌, pos, unsigned_abs}
use Rattle.doubles.specs.Double.{IsWhole, stale_marker}
use Rattle.doubles.specs.Decimal.{IsDecimal}
use Rattle.doubles.specs.Rounded.{IsRounded}
use Rattle.imported_values.specs.declared.policy.Policy.{Policy}
use Rattle.imported_values.specs.declared.policy.Reason.TheVariants as reason
use Rattle.imported_values.specs.declared.policy.Rest.{Rest}
use Rattle.imported_values.specs.declared.policy.Rest.TheVariants as rest
use Rattle.imported_values.specs.declared.policy.Stale.{Stale}
use Rattle.imported_values.specs.declared.policy.Stale.TheVariants as stale
use Rattle.imported_values.specs.declared.policy.Verdict.{Verdict}
use Rattle.imported_values.specs.declared.policy.Verdict.TheVariants.{Kept, Rounded, Left, Refused}

-- the double is a whole number below 2^63 in size, and v is this number in parts
pub record IsWholeInParts (digits bits : ℕ) (v : ℤ) : Type 0 where
  pub number : ℤ
  pub whole : IsWhole bits number
  pub small : unsigned_abs number < 2 ^ 63
  pub is : v ≡ number *ℤ pos (10 ^ digits)
  pub fits : unsigned_abs v < 2 ^ 63

-- the double is no whole number below 2^63 in size, and the decimal v / 10 ^ digits, of at most 15
-- digits, is read as it
pub record IsFractionInParts (digits bits : ℕ) (v : ℤ) : Type 0 where
  pub not_whole : (n : ℤ) → unsigned_abs n < 2 ^ 63 → IsWhole bits n → ⊥
  pub nearest : IsDecimal bits digits v
  pub fits : unsigned_abs v < 10 ^ 15

-- the double is v in parts of which 10 ^ digits make one
abbrev pub IsExact : ℕ → ℕ → ℤ → Type 0
IsExact digits bits v = IsWholeInParts digits bits v ⊎ IsFractionInParts digits bits v

-- v is the nearest number of parts to the double, of two the even one
pub record IsNearestParts (digits bits : ℕ) (v : ℤ) : Type 0 where
  pub nearest : IsRounded bits digits v
  pub fits : unsigned_abs v < 2 ^ 63

-- what becomes of a stale marker
abbrev pub verdict_of_stale : Stale → Verdict
verdict_of_stale stale.Drop = Left reason.Stale
verdict_of_stale stale.Refuse = Refused reason.Stale

-- what becomes of a value that is no number of parts: it is left out, refused or rounded to the
-- nearest; a value that has none is never rounded, and left out
abbrev pub IsVerdictOfRest : Rest → ℕ → ℕ → Verdict → Type 0
IsVerdictOfRest rest.Drop digits bits verdict = verdict ≡ Left reason.Rest
IsVerdictOfRest rest.Refuse digits bits verdict = verdict ≡ Refused reason.Rest
IsVerdictOfRest rest.Round digits bits verdict =
    ((v : ℤ) → IsNearestParts digits bits v → verdict ≡ Rounded v)
    × (((v : ℤ) → IsNearestParts digits bits v → ⊥) → verdict ≡ Left reason.Rest)

-- the value is rounded, as the policy asks, and v is the nearest
pub record IsRoundedBy (policy : Policy) (bits : ℕ) (v : ℤ) : Type 0 where
  pub asked : policy.rest ≡ rest.Round
  pub nearest : IsNearestParts policy.digits bits v

-- what becomes of the value with these bits: a stale marker is left out or refused, a number of
-- parts is kept as it is, any other value is left out, refused or rounded; nothing else is kept or
-- rounded
pub record IsVerdict (policy : Policy) (bits : ℕ) (verdict : Verdict) : Type 0 where
  pub stale : bits ≡ stale_marker → verdict ≡ verdict_of_stale policy.stale
  pub kept : (v : ℤ) → IsExact policy.digits bits v → verdict ≡ Kept v
  pub rest : (bits ≡ stale_marker → ⊥) → ((v : ℤ) → IsExact policy.digits bits v → ⊥)
      → IsVerdictOfRest policy.rest policy.digits bits verdict
  pub only : (v : ℤ) → verdict ≡ Kept v → IsExact policy.digits bits v
  pub rounded : (v : ℤ) → verdict ≡ Rounded v → IsRoundedBy policy bits v
