-- What stands in the JSON of a body.
use Rattle.std.specs.Prelude.{ℕ, ℤ, Bool, false, ◌==◌, List, Option, None, Some, option_and_then}
use Rattle.std.specs.Prelude.{if◌then◌else◌}
use Rattle.std.specs.Str.{is_utf8}
use Rattle.serde_json.specs.Data.{Data, Members}
use Rattle.serde_json.specs.Read.{read}
use Rattle.serde_json.specs.Find.{get, as_object, as_number, as_str, as_i64}
use Rattle.serde_json.specs.Events.{members_len}
use Rattle.requests.specs.Times.{if_time}

-- the value that the bytes write
abbrev pub json_of : List ℕ → Option Data
json_of bytes = if is_utf8 bytes then read bytes else None

abbrev pub are_many : ℕ → Option Members → Bool
are_many count None = false
are_many count (Some members) = members_len members == count

-- whether the value is an object with so many members
abbrev pub has_members : ℕ → Data → Bool
has_members count d = are_many count (as_object d)

-- the integer that a value is, from -2^63 to 2^63 - 1
abbrev pub integer_in : Data → Option ℤ
integer_in d = option_and_then as_i64 (as_number d)

-- the time that a value is
abbrev pub time_in : Data → Option ℤ
time_in d = option_and_then if_time (integer_in d)

-- the time under a name
abbrev pub time_at : List ℕ → Data → Option ℤ
time_at name d = option_and_then time_in (get name d)

-- the text under a name
abbrev pub text_at : List ℕ → Data → Option (List ℕ)
text_at name d = option_and_then as_str (get name d)
