-- Reading a decimal text. Each check has its refusal, and the first that fails is answered.
use Rattle.std.specs.Prelude.{ℕ, zero, suc, ◌+◌, ◌-◌, ◌*◌, ◌^◌, ◌==◌, ◌&&◌, nat_lt, if◌then◌else◌}
use Rattle.std.specs.Prelude.{List, [], ◌∷◌, length, take, drop, Result, Ok, Err}
use Rattle.wire.specs.Outcome.{◌>>=◌}
use Rattle.decimal_text.specs.declared.error.DecimalError.{DecimalError}
use Rattle.decimal_text.specs.declared.error.DecimalError.TheVariants.{Form, Finer, Large}
use Rattle.decimal_text.specs.Decimals.{is_digit}

-- how many digits stand in front
unfoldable pub digits_in_front : List ℕ → ℕ
digits_in_front [] = 0
digits_in_front (c ∷ cs) = if is_digit c then suc (digits_in_front cs) else 0

-- the digits after the point, where there is one
unfoldable pub fraction_at : List ℕ → Result (List ℕ) DecimalError
fraction_at [] = Ok []
fraction_at (c ∷ cs) =
    if c == 46 && digits_in_front cs == length cs then Ok cs else Err Form

-- the digits in front and those after the point: at least one in all
unfoldable pub digits_at : List ℕ → Result (List ℕ × List ℕ) DecimalError
digits_at text =
    fraction_at (drop (digits_in_front text) text) >>= λ fraction.
    if digits_in_front text == 0 && length fraction == 0 then Err Form
    else Ok (take (digits_in_front text) text, fraction)

-- a number with one more digit
abbrev pub with_digit : ℕ → ℕ → Result ℕ DecimalError
with_digit n digit = if nat_lt (n * 10 + digit) (2 ^ 63) then Ok (n * 10 + digit) else Err Large

unfoldable pub whole_at : ℕ → List ℕ → Result ℕ DecimalError
whole_at n [] = Ok n
whole_at n (c ∷ cs) = with_digit n (c - 48) >>= λ m. whole_at m cs

-- the number after a digit, and the places that are left
abbrev pub part_at : ℕ → ℕ → ℕ → Result (ℕ × ℕ) DecimalError
part_at n zero c = if c == 48 then Ok (n, zero) else Err Finer
part_at n (suc left) c = with_digit n (c - 48) >>= λ m. Ok (m, left)

-- as many digits as there are places, of which those that do not stand there are 0
unfoldable pub parts_at : ℕ → ℕ → List ℕ → Result ℕ DecimalError
parts_at n zero [] = Ok n
parts_at n (suc places) [] = with_digit n 0 >>= λ m. parts_at m places []
parts_at n zero (c ∷ cs) = if c == 48 then parts_at n zero cs else Err Finer
parts_at n (suc places) (c ∷ cs) = with_digit n (c - 48) >>= λ m. parts_at m places cs

unfoldable pub decimal_at : List ℕ → ℕ → Result ℕ DecimalError
decimal_at text places =
    digits_at text >>= λ d. whole_at 0 d.0 >>= λ n. parts_at n places d.1
