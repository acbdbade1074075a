-- The fields of a head by name, and the length that they tell.
use Rattle.std.specs.Prelude.{◌≡◌, ◌≤◌, ◌&&◌, ℕ, Bool, List, [], ◌∷◌, map, filter, length}
use Rattle.std.specs.Prelude.{drop, codes}
use Rattle.std.specs.Prelude.{Option, None, Some, Result, Ok, Err, nat_lt, if◌then◌else◌}
use Rattle.std.specs.List.{list_all, list_any}
use Rattle.std.specs.Str.{bytes_eq}
use Rattle.std.specs.Str.Parse.{digits_value}
use Rattle.std.specs.Char.{to_ascii_lowercase, is_ascii_digit}
use Rattle.httparse.specs.Grammar.{RequestHead, ReadsRequest}
use Rattle.httparse.specs.Spans.{name_and_value}
use Rattle.waiting_room.specs.declared.frame.LengthFault.{LengthFault}
use Rattle.waiting_room.specs.declared.frame.LengthFault.TheVariants.{Bad, TooLong}
use Rattle.waiting_room.specs.declared.frame.Frame.{Frame}

-- whether a field has the name, in any case of its letters
abbrev pub is_named : List ℕ → List ℕ × List ℕ → Bool
is_named name field = bytes_eq (map to_ascii_lowercase field.0) (map to_ascii_lowercase name)

-- the values of the fields of a name
abbrev pub field_values : List ℕ → List (List ℕ × List ℕ) → List (List ℕ)
field_values name fields = map (λ field. field.1) (filter (is_named name) fields)

-- whether there is a field of a name
abbrev pub has_field : List ℕ → List (List ℕ × List ℕ) → Bool
has_field name fields = list_any (is_named name) fields

-- the value, if there is exactly one
abbrev pub only : List (List ℕ) → Option (List ℕ)
only [] = None
only (value ∷ []) = Some value
only (value ∷ other ∷ values) = None

-- whether the bytes are decimal digits, at least one
abbrev pub is_decimal : List ℕ → Bool
is_decimal bytes = nat_lt 0 (length bytes) && list_all is_ascii_digit bytes

-- a length of at most so many bytes
abbrev pub allowed : ℕ → ℕ → Result ℕ LengthFault
allowed most n = if nat_lt most n then Err TooLong else Ok n

-- the length that a value writes
abbrev pub length_in : ℕ → List ℕ → Result ℕ LengthFault
length_in most value = if is_decimal value then allowed most (digits_value 10 value) else Err Bad

abbrev pub length_told : ℕ → Option (List ℕ) → Result ℕ LengthFault
length_told most None = Err Bad
length_told most (Some value) = length_in most value

-- the length of the body: what the only `Content-Length` writes, and 0 if there is none; a request
-- with a `Transfer-Encoding` tells none
abbrev pub length_asked : ℕ → List (List ℕ × List ℕ) → Result ℕ LengthFault
length_asked most fields =
    if has_field (codes "transfer-encoding") fields then Err Bad
    else if has_field (codes "content-length") fields
    then length_told most (only (field_values (codes "content-length") fields))
    else Ok 0

-- the names and the values of a head's fields
abbrev pub fields_of : RequestHead → List (List ℕ × List ℕ)
fields_of h = map name_and_value h.fields

-- the head at the front of these bytes, of at most 64 fields, is h
pub record IsHeadIn (most : ℕ) (buf : List ℕ) (head : Frame) (h : RequestHead) : Type 0 where
  pub reads : ReadsRequest buf h (drop head.end buf)
  pub within : head.end ≤ length buf
  pub few : length h.fields ≤ 64
  pub length_is : head.length ≡ length_asked most (fields_of h)
