-- What a call answered, against what reading gives.
use Rattle.std.specs.Prelude.{⊤, Bool, true, false, Result, Ok, Err}
use Rattle.wire.specs.Outcome as wire
use Rattle.kept_walk.specs.declared.fault.Fault.{Fault}
use Rattle.kept_walk.specs.declared.fault.Fault.TheVariants.{Memory, Form}

-- whether a fault says nothing of the bytes
abbrev pub is_memory : Fault → Bool
is_memory Memory = true
is_memory Form = false

-- what a function returned, seen by view, is what reading gives, unless memory ran out
abbrev pub Gives : {X Y : Type 0} → (X → Y) → Result X Fault → Result Y Fault → Type 0
Gives view result read = wire.Gives is_memory view result read

-- what was found, seen by view, is so; and where the bytes were not of the form, nothing is so
abbrev pub Finds : {X A : Type 0} → (X → A) → (A → Type 0) → Result X Fault → Type 0
Finds view P (Ok x) = P (view x)
Finds view P (Err Memory) = ⊤
Finds {A = A} view P (Err Form) = (a : A) → P a → ⊥
