-- Times as they stand in a query string.
use Rattle.std.specs.Prelude.{ℕ, ℤ, Bool, false, not, ◌&&◌, ◌==◌, List, [], ◌∷◌, Option, None, Some}
use Rattle.std.specs.Prelude.{length, if◌then◌else◌}
use Rattle.std.specs.List.{list_all}
use Rattle.std.specs.Char.{is_ascii_digit}
use Rattle.std.specs.Str.Parse.{signed_digits_value}
use Rattle.labels.specs.Contents.{is_time}

-- whether the bytes are digits that do not begin with `0`
abbrev pub is_counted : List ℕ → Bool
is_counted [] = false
is_counted (byte ∷ bytes) = not (byte == 48) && is_ascii_digit byte && list_all is_ascii_digit bytes

-- whether the bytes are `0`, or an optional `-` and digits that do not begin with `0`
abbrev pub is_integer : List ℕ → Bool
is_integer [] = false
is_integer (byte ∷ bytes) =
    if byte == 45 then is_counted bytes
    else if byte == 48 then length bytes == 0
    else is_counted (byte ∷ bytes)

-- the number, if it is a time
abbrev pub if_time : ℤ → Option ℤ
if_time t = if is_time t then Some t else None

-- the time that the bytes write
abbrev pub time_of : List ℕ → Option ℤ
time_of text = if is_integer text then if_time (signed_digits_value 10 text) else None
