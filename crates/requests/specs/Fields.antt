-- The fields of a head by name, and the length that they tell.
use Rattle.std.specs.Prelude.{◌≡◌, ◌≤◌, ◌&&◌, ℕ, Bool, List, map, filter, length, drop, codes}
use Rattle.std.specs.Prelude.{Option, None, Some, Result, Ok, Err, nat_lt, if◌then◌else◌}
use Rattle.std.specs.List.{list_all, list_any}
use Rattle.std.specs.Str.{bytes_eq}
use Rattle.std.specs.Str.Parse.{digits_value}
use Rattle.std.specs.Char.{to_ascii_lowercase, is_ascii_digit}
use Rattle.httparse.specs.Grammar.{RequestHead, ReadsRequest}
use Rattle.httparse.specs.Spans.{name_and_value}
use Rattle.requests.specs.declared.refusal.Refusal.{Refusal}
use Rattle.requests.specs.declared.refusal.Refusal.TheVariants.{BadBody, BodyTooLong}
use Rattle.requests.specs.declared.fields.Head.{Head}
use Rattle.requests.specs.QueryStrings.{only}

-- whether a field has the name, in any case of its letters
abbrev pub is_named : List ℕ → List ℕ × List ℕ → Bool
is_named name field = bytes_eq (map to_ascii_lowercase field.0) (map to_ascii_lowercase name)

-- the values of the fields of a name
abbrev pub field_values : List ℕ → List (List ℕ × List ℕ) → List (List ℕ)
field_values name fields = map (λ field. field.1) (filter (is_named name) fields)

-- whether there is a field of a name
abbrev pub has_field : List ℕ → List (List ℕ × List ℕ) → Bool
has_field name fields = list_any (is_named name) fields

-- whether the bytes are decimal digits, at least one
abbrev pub is_decimal : List ℕ → Bool
is_decimal bytes = nat_lt 0 (length bytes) && list_all is_ascii_digit bytes

-- a length of at most 1,048,576
abbrev pub allowed : ℕ → Result ℕ Refusal
allowed n = if nat_lt 1048576 n then Err BodyTooLong else Ok n

-- the length that a value writes
abbrev pub length_in : List ℕ → Result ℕ Refusal
length_in value = if is_decimal value then allowed (digits_value 10 value) else Err BadBody

-- the length, where nothing else tells it
abbrev pub length_alone : Bool → Result ℕ Refusal → Result ℕ Refusal
length_alone encoded (Err refusal) = Err refusal
length_alone encoded (Ok n) = if encoded then Err BadBody else Ok n

abbrev pub length_told : Option (List ℕ) → Result ℕ Refusal
length_told None = Err BadBody
length_told (Some value) = length_in value

-- the length of the body: what the only `Content-Length` writes, where there is no
-- `Transfer-Encoding`
abbrev pub length_asked : List (List ℕ × List ℕ) → Result ℕ Refusal
length_asked fields =
    length_alone (has_field (codes "transfer-encoding") fields)
    (length_told (only (field_values (codes "content-length") fields)))

-- the names and the values of a head's fields
abbrev pub fields_of : RequestHead → List (List ℕ × List ℕ)
fields_of h = map name_and_value h.fields

-- the head at the front of these bytes, of at most 64 fields, is h
pub record IsHeadIn (buf : List ℕ) (head : Head) (h : RequestHead) : Type 0 where
  pub reads : ReadsRequest buf h (drop head.end buf)
  pub within : head.end ≤ length buf
  pub few : length h.fields ≤ 64
  pub method : head.method.now ≡ h.method
  pub target : head.target.now ≡ h.target
  pub length_is : head.length ≡ length_asked (fields_of h)
