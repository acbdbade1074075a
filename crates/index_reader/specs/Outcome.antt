-- What a call answered, against what reading gives.
use Rattle.std.specs.Prelude.{Bool, true, false, Result}
use Rattle.wire.specs.Outcome as outcome
use Rattle.index_reader.specs.declared.error.IndexError.{IndexError}
use Rattle.index_reader.specs.declared.error.IndexError.TheVariants.{Memory}

-- whether an error says nothing of the file
abbrev pub is_memory : IndexError → Bool
is_memory Memory = true
is_memory e = false

-- the refusal is that of reading; a want of memory says nothing of it
abbrev pub Fails : {Y : Type 0} → IndexError → Result Y IndexError → Type 0
Fails e read = outcome.Fails is_memory e read

-- what a function returned, seen by view, is what reading gives, unless memory ran out
abbrev pub Gives : {X Y : Type 0} → (X → Y) → Result X IndexError → Result Y IndexError → Type 0
Gives view result read = outcome.Gives is_memory view result read
