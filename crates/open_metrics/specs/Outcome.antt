-- What a call answered, against what reading gives.
use Rattle.std.specs.Prelude.{Bool, true, false, Result}
use Rattle.wire.specs.Outcome as outcome
use Rattle.open_metrics.specs.declared.error.Fault.{Fault}
use Rattle.open_metrics.specs.declared.error.Fault.TheVariants.{Memory, At}

-- whether an error says nothing of the line
abbrev pub is_memory : Fault → Bool
is_memory Memory = true
is_memory (At reason left) = false

-- what a function returned, seen by view, is what reading gives, unless memory ran out
abbrev pub Gives : {X Y : Type 0} → (X → Y) → Result X Fault → Result Y Fault → Type 0
Gives view result read = outcome.Gives is_memory view result read
