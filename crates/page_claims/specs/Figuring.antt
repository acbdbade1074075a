-- The figures of a row.
use Rattle.std.specs.Prelude.{◌≡◌, ◌-◌, ℤ, List, [], ◌∷◌, Some, length, slice_get}
use Rattle.std.specs.Int.{int_min, int_max}

-- the least of a number and the values of samples
abbrev pub least_of : ℤ → List (ℤ × ℤ) → ℤ
least_of n [] = n
least_of n (s ∷ ss) = least_of (int_min n s.1) ss

-- the greatest of a number and the values of samples
abbrev pub greatest_of : ℤ → List (ℤ × ℤ) → ℤ
greatest_of n [] = n
greatest_of n (s ∷ ss) = greatest_of (int_max n s.1) ss

-- the value of the first sample and of the last, and the least and the greatest of all
pub record AreFigures (samples : List (ℤ × ℤ)) (first last least greatest : ℤ) : Type 0 where
  pub at_first : (s : ℤ × ℤ) → slice_get samples 0 ≡ Some s → first ≡ s.1
  pub at_last : (s : ℤ × ℤ) → slice_get samples (length samples - 1) ≡ Some s → last ≡ s.1
  pub is_least : least ≡ least_of first samples
  pub is_greatest : greatest ≡ greatest_of first samples
