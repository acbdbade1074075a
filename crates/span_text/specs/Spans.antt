-- Spans of time as texts.
use Rattle.std.specs.Prelude.{◌≡◌, ℕ, ◌<◌, ◌-◌, ◌*◌, ◌==◌, List, length, take, get_or, Option}
use Rattle.std.specs.Prelude.{None, Some, is_some, unwrap_or, if◌then◌else◌}
use Rattle.std.specs.Str.Parse.{IsNumeral, without_leading_plus, digits_value}

-- how many milliseconds a unit has, by its letter: s, m, h or d
abbrev pub unit_of : ℕ → Option ℕ
unit_of letter =
    if letter == 115 then Some 1000
    else if letter == 109 then Some 60000
    else if letter == 104 then Some 3600000
    else if letter == 100 then Some 86400000
    else None

-- the unit whose letter is the last of a text
abbrev pub unit_at_end : List ℕ → Option ℕ
unit_at_end text = unit_of (get_or text (length text - 1) 0)

-- the text before the letter of its unit; all of it, if it ends with none
abbrev pub number_in : List ℕ → List ℕ
number_in text = if is_some (unit_at_end text) then take (length text - 1) text else text

-- how many milliseconds its unit has; one, if it ends with none
abbrev pub each_in : List ℕ → ℕ
each_in text = unwrap_or (unit_at_end text) 1

-- the text is this number, without a sign or with a plus
pub record IsNumber (text : List ℕ) (n : ℕ) : Type 0 where
  pub numeral : IsNumeral 10 (without_leading_plus text)
  pub is : n ≡ digits_value 10 (without_leading_plus text)

-- the text writes so many milliseconds, one or more
pub record IsSpan (text : List ℕ) (milliseconds : ℕ) : Type 0 where
  pub number : ℕ
  pub written : IsNumber (number_in text) number
  pub is : milliseconds ≡ number * each_in text
  pub some : 0 < milliseconds
