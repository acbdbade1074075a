-- Decimal texts, rounded to whole numbers of parts.
use Rattle.std.specs.Prelude.{◌≡◌, ℕ, ◌+◌, ◌*◌, ◌^◌, true, false, List, ◌++◌, length}
use Rattle.doubles.specs.Rounded.{IsNearestWhole}
use Rattle.decimal_text.specs.declared.rounding.Nearest.{Nearest}
use Rattle.decimal_text.specs.Decimals.{AreDigitsOf, value_from}

-- of all whole numbers n is the nearest to top / unit, of two that are as near the even one; and it
-- is told whether it is that number
pub record IsRounded (top unit : ℕ) (n : Nearest) : Type 0 where
  pub nearest : IsNearestWhole top unit n.size
  pub exact : n.exact ≡ true → top ≡ n.size * unit
  pub inexact : n.exact ≡ false → top ≡ n.size * unit → ⊥

-- the same of the number that the text writes, times 10 ^ places and divided by 10 ^ shift
pub record IsNearest (text : List ℕ) (places shift : ℕ) (n : Nearest) : Type 0 where
  pub whole : List ℕ
  pub fraction : List ℕ
  pub digits : AreDigitsOf text whole fraction
  pub rounded : IsRounded (value_from 0 (whole ++ fraction) * 10 ^ places)
      (10 ^ (length fraction + shift)) n
