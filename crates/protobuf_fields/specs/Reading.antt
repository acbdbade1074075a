-- Reading a message from the front, as far as the first fault.
use Rattle.std.specs.Prelude.{ℕ, zero, suc, ◌+◌, ◌/◌, ◌%◌, List, [], ◌∷◌, length, take, drop}
use Rattle.std.specs.Prelude.{nat_lt, ◌==◌, ◌||◌, if◌then◌else◌, Bool, Result, Ok, Err}
use Rattle.byteorder.specs.Endian.{little_number}
use Rattle.wire.specs.Outcome.{◌>>=◌}
use Rattle.varints.specs.Varint.{varint_at}
use Rattle.varints.specs.declared.error.VarintError.{VarintError}
use Rattle.varints.specs.declared.error.VarintError.TheVariants as varints
use Rattle.protobuf_fields.specs.declared.error.Fault.{Fault}
use Rattle.protobuf_fields.specs.declared.error.Fault.TheVariants.{Short, TooBig, Key}
use Rattle.protobuf_fields.specs.declared.error.Fault.TheVariants.{Kind, Unexpected}
use Rattle.protobuf_fields.specs.declared.field.Field.{Field}
use Rattle.protobuf_fields.specs.declared.field.Field.TheVariants as fields
use Rattle.protobuf_fields.specs.Format.{Value, Number, Eight, Text, Four, number_of, kind_of}

-- a field where it stands
abbrev pub seen : Field → Value
seen (fields.Number n v) = Number n v
seen (fields.Eight n v) = Eight n v
seen (fields.Text n v) = Text n v.now
seen (fields.Four n v) = Four n v

abbrev pub fault_of : VarintError → Fault
fault_of varints.Short = Short
fault_of varints.TooBig = TooBig

abbrev pub or_fault : Result (ℕ × List ℕ) VarintError → Result (ℕ × List ℕ) Fault
or_fault (Ok x) = Ok x
or_fault (Err e) = Err (fault_of e)

abbrev pub bytes_at : ℕ → List ℕ → Result (List ℕ × List ℕ) Fault
bytes_at k bytes = if nat_lt (length bytes) k then Err Short else Ok (take k bytes, drop k bytes)

abbrev pub number_at : ℕ → List ℕ → Result (ℕ × List ℕ) Fault
number_at k bytes =
    if nat_lt (length bytes) k then Err Short else Ok (little_number k bytes, drop k bytes)

-- a field of this number and kind
unfoldable pub body_at : ℕ → ℕ → List ℕ → Result (Value × List ℕ) Fault
body_at n kind bytes =
    if kind == 0 then (or_fault (varint_at bytes) >>= λ v. Ok (Number n v.0, v.1))
    else if kind == 1 then (number_at 8 bytes >>= λ v. Ok (Eight n v.0, v.1))
    else if kind == 2 then (or_fault (varint_at bytes) >>= λ k.
    bytes_at k.0 k.1 >>= λ v. Ok (Text n v.0, v.1))
    else if kind == 5 then (number_at 4 bytes >>= λ v. Ok (Four n v.0, v.1))
    else Err Kind

-- the field in front, and the bytes after it; or the first fault
unfoldable pub field_at : List ℕ → Result (Value × List ℕ) Fault
field_at bytes =
    or_fault (varint_at bytes) >>= λ key.
    if key.0 / 8 == 0 || nat_lt 0x1fff_ffff (key.0 / 8) then Err Key
    else body_at (key.0 / 8) (key.0 % 8) key.1

-- a fault, and how many bytes stand from its place to the end
abbrev pub Refusal : Type 0
Refusal = Fault × ℕ

abbrev pub placed : {A : Type 0} → ℕ → Result A Fault → Result A Refusal
placed left (Ok x) = Ok x
placed left (Err fault) = Err (fault, left)

-- a refusal within a field after which these bytes stand
abbrev pub moved : {A : Type 0} → ℕ → Result A Refusal → Result A Refusal
moved after (Ok x) = Ok x
moved after (Err e) = Err (e.0, e.1 + after)

-- a field that is of its kind where it is known
unfoldable pub known_at : (ℕ → ℕ → Bool) → List ℕ → Result (Value × List ℕ) Fault
known_at allows bytes =
    field_at bytes >>= λ x. if allows (number_of x.0) (kind_of x.0) then Ok x else Err Unexpected

-- what at most so many fields make of a value, step by step, as far as the first fault: `allows`
-- says which kind a field has that is known, and `step` what a field makes of the value
unfoldable pub message_at : {A : Type 0} → (ℕ → ℕ → Bool) → (A → Value → Result A Refusal)
    → ℕ → A → List ℕ → Result A Refusal
message_at allows step most a [] = Ok a
message_at allows step zero a (b ∷ rest) = Err (Short, 0)
message_at allows step (suc most) a (b ∷ rest) =
    placed (length (b ∷ rest)) (known_at allows (b ∷ rest)) >>= λ x.
    moved (length x.1) (step a x.0) >>= λ c. message_at allows step most c x.1

-- how many bytes the text of a field has
abbrev pub text_len : Value → ℕ
text_len (Text n text) = length text
text_len (Number n v) = 0
text_len (Eight n v) = 0
text_len (Four n v) = 0
