-- The values of samples, and how they are written.
use Rattle.std.specs.Prelude.{◌≡◌, ◌<◌, ◌^◌, ℕ, ℤ, List}
use Rattle.std.specs.Fmt.{signed_decimal}
use Rattle.double_text.specs.Texts.{IsTextOf}
use Rattle.stored_doubles.specs.Stored.{IsStoredFor}
use Rattle.page_text.specs.declared.value.Value.{Value}
use Rattle.page_text.specs.declared.value.Value.TheVariants as value
use Rattle.page_text.specs.declared.value.Values.{Values}
use Rattle.page_text.specs.declared.value.Values.TheVariants.{Whole, Doubles}

-- a number as a value of some meaning
abbrev pub value_of : Values → ℤ → Value
value_of Whole n = value.Whole n
value_of Doubles n = value.Double n

-- these are the bits of the double for which a number is kept
pub record AreBitsOf (n : ℤ) (bits : ℕ) : Type 0 where
  pub fits : bits < 2 ^ 64
  pub stored : IsStoredFor bits n

-- the text of the double for which a number is kept: it is read again as this double
pub record IsDoubleText (n : ℤ) (text : List ℕ) : Type 0 where
  pub bits : ℕ
  pub are_bits : AreBitsOf n bits
  pub is_text : IsTextOf bits text

-- a whole number is written in decimal, and a double by a text that is read again as it
abbrev pub IsValueText : Value → List ℕ → Type 0
IsValueText (value.Whole n) text = text ≡ signed_decimal n
IsValueText (value.Double n) text = IsDoubleText n text
