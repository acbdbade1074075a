-- What a call answered, against what reading gives.
use Rattle.std.specs.Prelude.{Bool, true, false, Result}
use Rattle.wire.specs.Outcome as outcome
use Rattle.numbered_text.specs.declared.error.NumberError.{NumberError}
use Rattle.numbered_text.specs.declared.error.NumberError.TheVariants.{Memory}

-- whether an error says nothing of the bytes
abbrev pub is_memory : NumberError → Bool
is_memory Memory = true
is_memory e = false

-- what a function returned, seen by view, is what reading gives, unless memory ran out
abbrev pub Gives : {X Y : Type 0} → (X → Y) → Result X NumberError → Result Y NumberError → Type 0
Gives view result read = outcome.Gives is_memory view result read
