-- What the values of a store that is served mean.
use Rattle.std.proofs.Common.{◌⊎◌, ℕ, List, Option, inl, inr}
use Rattle.store_folder.specs.declared.reading.FoundStore.{FoundStore}
use Rattle.commands.specs.Keeping.{IsPortFault}
use Rattle.commands.specs.Selecting.{KeepsAt}
use Rattle.commands.specs.ServingRuns.{IsFolderRunFault, IsKeepingFault}
use Rattle.commands.specs.declared.command.Serving.{Serving}
use Rattle.commands.specs.declared.fault.Fault.{Fault}

-- a port that is refused over what was found, or a store that is not served
pub run_fault : (found : Option FoundStore) (folder : List ℕ) (serving : Serving)
    (old new : Option (List ℕ)) (fault : Fault)
    → (IsPortFault found serving fault × KeepsAt fault old new)
    ⊎ IsKeepingFault folder serving old new fault
    → IsFolderRunFault folder serving old new fault
run_fault found folder serving old new fault (inl h) =
    inl (record { found = found; is = h.0; keeps = h.1 })
run_fault found folder serving old new fault (inr h) = inr h
