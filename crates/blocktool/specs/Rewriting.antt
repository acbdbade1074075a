-- Whole numbers that become doubles.
use Rattle.std.specs.Prelude.{◌≡◌, ℕ, ◌^◌, nat_le, ℤ, unsigned_abs, Bool, true}
use Rattle.std.specs.List.{list_all}
use Rattle.doubles.specs.Double.{IsWhole}
use Rattle.stored_doubles.specs.Stored.{IsStoredFor}
use Rattle.labels.specs.Rows.{Row}

-- whether a whole number is within 2^53, up to which each is a double
abbrev pub is_small : ℤ → Bool
is_small v = nat_le (unsigned_abs v) 0x20_0000_0000_0000

-- whether the values of a row are
abbrev pub are_small : Row → Bool
are_small row = list_all (λ (s : ℤ × ℤ). is_small s.1) row.1

-- such a number is kept for the double that it is, unless this is minus zero
abbrev pub SmallNumbersStandForThemselves : Type 0
SmallNumbersStandForThemselves = (bits : ℕ) (v : ℤ) → is_small v ≡ true → IsWhole bits v
    → (bits ≡ 2 ^ 63 → ⊥) → IsStoredFor bits v
