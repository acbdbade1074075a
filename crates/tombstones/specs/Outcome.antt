-- What a call answered, against what reading gives.
use Rattle.std.specs.Prelude.{Bool, true, false, List, Result}
use Rattle.wire.specs.Outcome as outcome
use Rattle.tombstones.specs.declared.deletion.Deletion.{Deletion}
use Rattle.tombstones.specs.declared.error.TombstoneError.{TombstoneError}
use Rattle.tombstones.specs.declared.error.TombstoneError.TheVariants.{Memory}

-- whether an error says nothing of the file
abbrev pub is_memory : TombstoneError → Bool
is_memory Memory = true
is_memory e = false

-- the refusal is that of reading; a want of memory says nothing of it
abbrev pub Fails : {Y : Type 0} → TombstoneError → Result Y TombstoneError → Type 0
Fails e read = outcome.Fails is_memory e read

-- what a function returned, seen by view, is what reading gives, unless memory ran out
abbrev pub Gives : {X Y : Type 0}
    → (X → Y) → Result X TombstoneError → Result Y TombstoneError → Type 0
Gives view result read = outcome.Gives is_memory view result read

-- what was returned holds the deletions that reading gives, in an order of its own
abbrev pub GivesAll : Result (List Deletion) TombstoneError → Result (List Deletion) TombstoneError
    → Type 0
GivesAll result read = outcome.GivesAll is_memory result read
