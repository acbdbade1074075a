-- The number that a text writes, in parts of which a power of ten make one.
use Rattle.std.specs.Prelude.{ℕ, zero, suc, ℤ, pos, negsuc, ◌+◌, ◌==◌, ◌||◌, Bool, true, false}
use Rattle.std.specs.Prelude.{nat_le, List, [], ◌∷◌, length, codes, Option, None, Some}
use Rattle.std.specs.Prelude.{option_and_then, option_map, Result, Ok, Err, if◌then◌else◌}
use Rattle.std.specs.Str.{str_eq_ignore_ascii_case}
use Rattle.decimal_text.specs.declared.error.DecimalError.{DecimalError}
use Rattle.decimal_text.specs.declared.error.DecimalError.TheVariants.{Form, Finer, Large}
use Rattle.decimal_text.specs.declared.rounding.Nearest.{Nearest}
use Rattle.decimal_text.specs.Reading.{decimal_at}
use Rattle.decimal_text.specs.Tenths.{nearest_at}
use Rattle.open_metrics.specs.declared.numbers.Value.{Value}
use Rattle.open_metrics.specs.declared.numbers.Value.TheVariants.{Parts, Near, Other}
use Rattle.open_metrics.specs.declared.tokens.Class.TheVariants.{Digit, Mantissa}
use Rattle.open_metrics.specs.Tokens.{count_front, front, behind}

-- whether there is a minus in front, and what stands after a sign
abbrev pub is_minus : List ℕ → Bool
is_minus [] = false
is_minus (c ∷ cs) = c == 45

abbrev pub unsigned_of : List ℕ → List ℕ
unsigned_of [] = []
unsigned_of (c ∷ cs) = if c == 45 || c == 43 then cs else c ∷ cs

-- a number of at most 999
abbrev pub small : Result ℕ DecimalError → Option ℕ
small (Ok n) = if nat_le n 999 then Some n else None
small (Err e) = None

unfoldable pub small_at : List ℕ → Option ℕ
small_at digits =
    if count_front Digit digits == length digits then small (decimal_at digits 0) else None

-- the exponent after a mantissa: whether it is below 0, and its size
unfoldable pub exponent_at : List ℕ → Option (Bool × ℕ)
exponent_at [] = Some (false, 0)
exponent_at (c ∷ cs) = option_map (λ n. (is_minus cs, n)) (small_at (unsigned_of cs))

-- the size of a mantissa with an exponent, in parts of which 10^places make one
unfoldable pub scaled_at : List ℕ → ℕ → Bool → ℕ → Result Nearest DecimalError
scaled_at mantissa places down e =
    if down then nearest_at mantissa places e else nearest_at mantissa (places + e) 0

-- the number of this size below 0
abbrev pub negative : ℕ → ℤ
negative zero = pos 0
negative (suc n) = negsuc n

-- a size with its sign: -0 is 0
abbrev pub with_sign : Bool → ℕ → ℤ
with_sign true n = negative n
with_sign false n = pos n

-- a whole number of parts, or the nearest to one that is none
abbrev pub of_nearest : Bool → Nearest → Value
of_nearest minus n =
    if n.exact then Parts (with_sign minus n.size) else Near (with_sign minus n.size)

-- a size below 2^63, another number, or no number
abbrev pub value_of : Bool → Result Nearest DecimalError → Option Value
value_of minus (Ok n) = Some (of_nearest minus n)
value_of minus (Err Form) = None
value_of minus (Err Finer) = Some Other
value_of minus (Err Large) = Some Other

-- NaN and the infinities, in letters of either case
abbrev pub is_special : List ℕ → Bool
is_special text =
    str_eq_ignore_ascii_case text (codes "nan")
    || (str_eq_ignore_ascii_case (unsigned_of text) (codes "inf")
    || str_eq_ignore_ascii_case (unsigned_of text) (codes "infinity"))

-- a sign, a mantissa and an exponent
unfoldable pub signed_at : List ℕ → ℕ → Option Value
signed_at text places =
    let body = unsigned_of text in
    option_and_then (λ e. value_of (is_minus text)
    (scaled_at (front Mantissa body) places e.0 e.1)) (exponent_at (behind Mantissa body))

unfoldable pub number_at : List ℕ → ℕ → Option Value
number_at text places = if is_special text then Some Other else signed_at text places
