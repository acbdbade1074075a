-- The figures of a row, by what its values mean.
use Rattle.std.specs.Prelude.{◌≡◌, ◌≤◌, ◌-◌, ◌+◌, ◌^◌, ℕ, ℤ, List, Some, length, slice_get}
use Rattle.std.specs.Prelude.{nat_lt, if◌then◌else◌}
use Rattle.double_text.specs.Texts.{is_nan_bits}
use Rattle.page_claims.specs.Figuring.{AreFigures}
use Rattle.page_claims.specs.declared.figures.Figures.{Figures}
use Rattle.page_text.specs.Values.{AreBitsOf}
use Rattle.page_text.specs.declared.value.Values.{Values}
use Rattle.page_text.specs.declared.value.Values.TheVariants.{Whole, Doubles}
use Rattle.page_marks.specs.declared.figures.End.{End}
use Rattle.page_marks.specs.declared.figures.End.TheVariants.{Least, Greatest}

-- where the double with these bits stands among all that are numbers: by its sign and its size
abbrev pub height_of : ℕ → ℕ
height_of bits = if nat_lt bits (2 ^ 63) then 2 ^ 63 + bits else 2 ^ 64 - bits

-- where it stands from an end; a NaN stands behind all numbers
abbrev pub rank_of : End → ℕ → ℕ
rank_of Least bits = if is_nan_bits bits then 2 ^ 64 - 1 else height_of bits
rank_of Greatest bits = if is_nan_bits bits then 2 ^ 64 - 1 else 2 ^ 64 - 1 - height_of bits

-- a number is the value of a sample
pub record HasValue (samples : List (ℤ × ℤ)) (n : ℤ) : Type 0 where
  pub at : ℕ
  pub sample : ℤ × ℤ
  pub there : slice_get samples at ≡ Some sample
  pub value : n ≡ sample.1

-- a number is the value of a sample, and from an end no sample's double stands before its double
pub record IsEnd (end : End) (samples : List (ℤ × ℤ)) (n : ℤ) : Type 0 where
  pub among : HasValue samples n
  pub none_before : (at : ℕ) (s : ℤ × ℤ) (a b : ℕ) → slice_get samples at ≡ Some s
      → AreBitsOf s.1 a → AreBitsOf n b → rank_of end b ≤ rank_of end a

-- the value of the first sample and of the last, and those of the least and the greatest double
pub record AreDoubleFigures (samples : List (ℤ × ℤ)) (f : Figures) : Type 0 where
  pub at_first : (s : ℤ × ℤ) → slice_get samples 0 ≡ Some s → f.first ≡ s.1
  pub at_last : (s : ℤ × ℤ) → slice_get samples (length samples - 1) ≡ Some s → f.last ≡ s.1
  pub is_least : IsEnd Least samples f.least
  pub is_greatest : IsEnd Greatest samples f.greatest

-- the figures of samples whose values have a meaning
abbrev pub AreFiguresOf : Values → List (ℤ × ℤ) → Figures → Type 0
AreFiguresOf Whole samples f = AreFigures samples f.first f.last f.least f.greatest
AreFiguresOf Doubles samples f = AreDoubleFigures samples f
