-- Decimal texts, as whole numbers of parts of a power of ten.
use Rattle.std.specs.Prelude.{◌≡◌, ◌⊎◌, ℕ, ◌+◌, ◌-◌, ◌*◌, ◌^◌, ◌<◌, Bool, true, ◌&&◌, nat_le, List}
use Rattle.std.specs.Prelude.{[]}
use Rattle.std.specs.Prelude.{◌∷◌, ◌++◌, length}

-- `0` to `9`
abbrev pub is_digit : ℕ → Bool
is_digit c = nat_le 48 c && nat_le c 57

abbrev pub AreDigits : List ℕ → Type 0
AreDigits [] = Unit {0}
AreDigits (c ∷ cs) = (is_digit c ≡ true) × AreDigits cs

-- the number that digits write after another
abbrev pub value_from : ℕ → List ℕ → ℕ
value_from n [] = n
value_from n (c ∷ cs) = value_from (n * 10 + (c - 48)) cs

-- a point and digits after it, of which there may be none; or nothing
abbrev pub IsFraction : List ℕ → List ℕ → Type 0
IsFraction digits text = (text ≡ 46 ∷ digits) ⊎ ((digits ≡ []) × (text ≡ []))

-- a text by its digits: a point may stand before, among or behind them
pub record AreDigitsOf (text whole fraction : List ℕ) : Type 0 where
  pub behind : List ℕ
  pub text_is : text ≡ whole ++ behind
  pub behind_is : IsFraction fraction behind
  pub some : 0 < length whole + length fraction
  pub whole_digits : AreDigits whole
  pub fraction_digits : AreDigits fraction

-- the text is that of size / 10 ^ places
pub record IsDecimal (text : List ℕ) (places size : ℕ) : Type 0 where
  pub whole : List ℕ
  pub fraction : List ℕ
  pub digits : AreDigitsOf text whole fraction
  pub exact : value_from 0 (whole ++ fraction) * 10 ^ places ≡ size * 10 ^ length fraction
