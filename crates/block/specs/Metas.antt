-- What a meta.json says.
use Rattle.std.specs.Prelude.{ℕ, ℤ, pos, List, length, Option, Some, None, Result, Ok, Err}
use Rattle.std.specs.Prelude.{option_and_then, codes, if◌then◌else◌, nat_lt}
use Rattle.std.specs.Ordering.{int_eq}
use Rattle.std.specs.Str.{is_utf8}
use Rattle.serde_json.specs.Data.{Data}
use Rattle.serde_json.specs.Read.{read}
use Rattle.serde_json.specs.Find.{get, as_number, as_i64}
use Rattle.block.specs.declared.error.BlockError.{BlockError}
use Rattle.block.specs.declared.error.BlockError.TheVariants.{Meta}
use Rattle.block.specs.Ranges.{range_of}

-- the JSON that the bytes are; of a member that is given twice it has the last
abbrev pub json_of : List ℕ → Option Data
json_of bytes = if is_utf8 bytes then read bytes else None

-- the integer of 64 bits that an object has under a name
abbrev pub integer_at : List ℕ → Data → Option ℤ
integer_at name d = option_and_then as_i64 (option_and_then as_number (get name d))

-- the range from `minTime` up to `maxTime`, of an object whose `version` is 1
abbrev pub range_in : Data → Option (ℤ × ℤ)
range_in d =
    option_and_then (λ version. if int_eq version (pos 1)
    then option_and_then
    (λ min. option_and_then (λ max. range_of min max) (integer_at (codes "maxTime") d))
    (integer_at (codes "minTime") d)
    else None) (integer_at (codes "version") d)

-- the range that a text of at most 1,048,576 bytes says
abbrev pub range_said : List ℕ → Option (ℤ × ℤ)
range_said bytes =
    if nat_lt 1048576 (length bytes) then None else option_and_then range_in (json_of bytes)

-- a value that is there, or `B2`
abbrev pub or_meta : {A : Type 0} → Option A → Result A BlockError
or_meta (Some x) = Ok x
or_meta None = Err Meta
