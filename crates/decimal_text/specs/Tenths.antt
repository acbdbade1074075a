-- Reading a decimal text as the nearest number of parts: its digits as tenths of parts, and whether
-- digits other than 0 stand behind these.
use Rattle.std.specs.Prelude.{ℕ, zero, suc, ◌+◌, ◌-◌, ◌*◌, ◌/◌, ◌%◌, ◌^◌, ◌==◌, ◌&&◌, ◌||◌, not}
use Rattle.std.specs.Prelude.{nat_lt, Bool, false, if◌then◌else◌, List, [], ◌∷◌, length}
use Rattle.std.specs.Prelude.{Result, Ok, Err}
use Rattle.wire.specs.Outcome.{◌>>=◌}
use Rattle.decimal_text.specs.declared.error.DecimalError.{DecimalError}
use Rattle.decimal_text.specs.declared.error.DecimalError.TheVariants.{Large}
use Rattle.decimal_text.specs.declared.rounding.Cut.{Cut}
use Rattle.decimal_text.specs.declared.rounding.Nearest.{Nearest}
use Rattle.decimal_text.specs.Reading.{digits_at}

-- the tenths of 2^63 parts: larger numbers are all alike
abbrev pub limit : ℕ
limit = 10 * 2 ^ 63

abbrev pub capped : ℕ → ℕ
capped n = if nat_lt n limit then n else limit

-- a number with one more digit
unfoldable pub grown : ℕ → ℕ → ℕ
grown n digit = capped (n * 10 + digit)

-- a digit more: it is kept while some are left, and else it is told whether it is other than 0
abbrev pub with_next : Cut → ℕ → Cut
with_next cut c =
    if cut.left == 0 then record cut { more = cut.more || not (c == 48) }
    else record { tenths = grown cut.tenths (c - 48); left = cut.left - 1; more = cut.more }

unfoldable pub cut_after : Cut → List ℕ → Cut
cut_after cut [] = cut
cut_after cut (c ∷ cs) = cut_after (with_next cut c) cs

-- how many digits stand before the point and up to the tenths of parts
abbrev pub keep_of : List ℕ → ℕ → ℕ → ℕ
keep_of whole places shift = length whole + places + 1 - shift

abbrev pub unread : ℕ → Cut
unread keep = record { tenths = 0; left = keep; more = false }

-- the digits in front and those after the point
unfoldable pub cut_of : List ℕ → List ℕ → ℕ → ℕ → Cut
cut_of whole fraction places shift =
    cut_after (cut_after (unread (keep_of whole places shift)) whole) fraction

-- as many zeros more
unfoldable pub padded : ℕ → ℕ → ℕ
padded zero n = n
padded (suc zeros) n = padded zeros (grown n 0)

-- whether tenths, of which a rest stands behind if there is more, are nearer to the next part
unfoldable pub is_up : ℕ → Bool → Bool
is_up tenths more =
    nat_lt 5 (tenths % 10)
    || (tenths % 10 == 5 && (more || tenths / 10 % 2 == 1))

unfoldable pub nearest_of : ℕ → Bool → ℕ
nearest_of tenths more = if is_up tenths more then tenths / 10 + 1 else tenths / 10

unfoldable pub is_exact : ℕ → Bool → Bool
is_exact tenths more = tenths % 10 == 0 && not more

abbrev pub as_parts : ℕ → Bool → Nearest
as_parts tenths more = record { size = nearest_of tenths more; exact = is_exact tenths more }

unfoldable pub rounded_at : ℕ → Bool → Result Nearest DecimalError
rounded_at tenths more =
    if nat_lt (nearest_of tenths more) (2 ^ 63) then Ok (as_parts tenths more) else Err Large

unfoldable pub of_cut : Cut → Result Nearest DecimalError
of_cut cut = rounded_at (padded cut.left cut.tenths) cut.more

unfoldable pub nearest_at : List ℕ → ℕ → ℕ → Result Nearest DecimalError
nearest_at text places shift = digits_at text >>= λ d. of_cut (cut_of d.0 d.1 places shift)
