-- What a call answered, against what reading gives.
use Rattle.std.specs.Prelude.{◌≡◌, Bool, true, false, Result, Ok, Err}
use Rattle.wire.specs.declared.error.WireError.{WireError}
use Rattle.wire.specs.declared.error.WireError.TheVariants as wire_errors
use Rattle.wire.specs.Outcome as outcome
use Rattle.xor_reader.specs.declared.error.XorError.{XorError}
use Rattle.xor_reader.specs.declared.error.XorError.TheVariants.{Memory, Short, Number}

-- whether an error says nothing of the bytes
abbrev pub is_memory : XorError → Bool
is_memory Memory = true
is_memory e = false

-- a whole byte, or a number of bytes, that could not be read
abbrev pub refusal_of : WireError → XorError
refusal_of wire_errors.Short = Short
refusal_of wire_errors.LongForm = Number
refusal_of wire_errors.TooBig = Number

-- what was read of whole bytes, or its refusal here
abbrev pub or_number : {A : Type 0} → Result A WireError → Result A XorError
or_number (Ok x) = Ok x
or_number (Err e) = Err (refusal_of e)

-- what was read and what stands after it, or the refusal, after which nothing is said of the rest
abbrev pub ReadsFront : {X Y R : Type 0}
    → (X → Y) → Result (Y × R) XorError → Result X XorError → R → Type 0
ReadsFront view read (Ok x) new = read ≡ Ok (view x, new)
ReadsFront view read (Err e) new = read ≡ Err e

-- what a function returned, seen by view, is what reading gives, unless memory ran out
abbrev pub Gives : {X Y : Type 0} → (X → Y) → Result X XorError → Result Y XorError → Type 0
Gives view result read = outcome.Gives is_memory view result read
