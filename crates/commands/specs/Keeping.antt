-- The folder of a store that is kept, and what a start finds in it.
use Rattle.std.specs.Prelude.{◌≡◌, ◌⊎◌, ℕ, ◌<◌, ◌==◌, Bool, true, List, ◌++◌, Option, None, Some}
use Rattle.std.specs.Prelude.{codes, map, string_bytes, if◌then◌else◌}
use Rattle.data_folder.specs.JournalFile.{journal_name}
use Rattle.block_folder.specs.declared.values.Values.{Values}
use Rattle.block_folder.specs.declared.values.Values.TheVariants.{Whole, Doubles}
use Rattle.head.specs.Blocks.{part_in}
use Rattle.store_folder.specs.Finding.{IsFoundStore}
use Rattle.store_folder.specs.Origins.{Origin, beginning}
use Rattle.store_folder.specs.Refusals.{IsRefusal}
use Rattle.store_folder.specs.States.{origin_of}
use Rattle.store_folder.specs.declared.reading.FoundStore.{FoundStore}
use Rattle.commands.specs.declared.command.Serving.{Serving}
use Rattle.commands.specs.declared.fault.Fault.{Fault}
use Rattle.commands.specs.declared.fault.Fault.TheVariants.{Refused, CannotRead, CannotWriteAt}
use Rattle.commands.specs.declared.fault.Fault.TheVariants.{Locked, Memory}
use Rattle.commands.specs.declared.fault.Refusal.TheVariants.{Start, WholeNumbers}

-- the path of a name in a folder
abbrev pub path_in : List ℕ → List ℕ → List ℕ
path_in folder name = folder ++ (codes "/" ++ name)

-- what stands at a path cannot be written, or memory failed
abbrev pub IsWriteFault : List ℕ → Fault → Type 0
IsWriteFault path (CannotWriteAt at) = string_bytes at ≡ path
IsWriteFault path Memory = Unit {0}
IsWriteFault path other = ⊥

-- what stands at a path cannot be read, or memory failed
abbrev pub IsReadFault : List ℕ → Fault → Type 0
IsReadFault path (CannotRead at) = string_bytes at ≡ path
IsReadFault path Memory = Unit {0}
IsReadFault path other = ⊥

-- the path is that of a folder, or of something in it
abbrev pub IsWithin : List ℕ → List ℕ → Type 0
IsWithin folder path = (path ≡ folder) ⊎ ((name : List ℕ) × (path ≡ path_in folder name))

-- why a folder is not opened: another process has it, or something in it cannot be written or
-- read, or memory failed
abbrev pub IsFolderFault : List ℕ → Fault → Type 0
IsFolderFault folder (Locked at holder) = string_bytes at ≡ folder
IsFolderFault folder (CannotWriteAt path) = IsWithin folder (string_bytes path)
IsFolderFault folder (CannotRead path) = IsWithin folder (string_bytes path)
IsFolderFault folder Memory = Unit {0}
IsFolderFault folder other = ⊥

-- why the store of a folder is not opened: by the folder, or by the first fault of what is in it
abbrev pub IsDataFault : List ℕ → Fault → Type 0
IsDataFault folder (Refused (Start error)) = IsRefusal error
IsDataFault folder other = IsFolderFault folder other

-- what was found in a folder lies there for good: no journal, or a store
abbrev pub HasFound : {F : Type 0} → (F → List ℕ → Option (List ℕ) → Type 0)
    → (F → List ℕ → ℕ → Type 0) → F → Option FoundStore → Type 0
HasFound shows kept f None = shows f journal_name None × kept f journal_name 0
HasFound shows kept f (Some s) = IsFoundStore shows kept s.journal (map part_in s.blocks.items) f

-- a folder was read, and nothing of it has failed
pub record IsRead {F : Type 0} (shows : F → List ℕ → Option (List ℕ) → Type 0)
    (kept : F → List ℕ → ℕ → Type 0) (sound : F → Bool) (f : F) (found : Option FoundStore)
    : Type 0 where
  pub has : HasFound shows kept f found
  pub is_sound : sound f ≡ true

-- what is found in a folder of whose files no clause tells, as those of the host
abbrev pub IsFoundOnHost : Option FoundStore → Type 0
IsFoundOnHost found =
    HasFound {F = Unit {0}} (λ f name x. Unit {0}) (λ f name n. Unit {0}) tt found

-- what the values of a store mean that begins: doubles exactly if the port of Prometheus is asked
-- for
abbrev pub asked_values : Serving → Values
asked_values serving = if serving.prometheus_port == 0 then Whole else Doubles

-- where what was found begins, before its events: with the world of the journal's head and blocks
-- and what the head says that values mean; or as a store that has nothing, whose values mean what
-- is asked for
abbrev pub first_of : Values → Option FoundStore → Origin
first_of values None = beginning values
first_of values (Some s) = origin_of s.journal.head (map part_in s.blocks.items)

-- the port of Prometheus is asked for only if values are doubles
abbrev pub IsMeant : Serving → Values → Type 0
IsMeant serving values = (serving.prometheus_port ≡ 0) ⊎ (values ≡ Doubles)

-- a store of whole numbers was found
abbrev pub HasWhole : Option FoundStore → Type 0
HasWhole None = ⊥
HasWhole (Some s) = s.journal.head.values ≡ Whole

-- the port of Prometheus is refused: it is asked for, and a store of whole numbers was found
pub record IsPortFault (found : Option FoundStore) (serving : Serving) (fault : Fault)
    : Type 0 where
  pub refused : fault ≡ Refused WholeNumbers
  pub asked : 0 < serving.prometheus_port
  pub whole : HasWhole found
