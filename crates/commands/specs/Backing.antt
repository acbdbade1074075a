-- What `backup` does with a store that is kept.
use Rattle.std.specs.Prelude.{◌≡◌, ◌⊎◌, ℕ, List, ◌++◌, Option, codes, decimal}
use Rattle.std.specs.Io.KnownBytes.{Appends}
use Rattle.store_backup.specs.Copies.{TellsSome}
use Rattle.store_backup.specs.declared.copying.Copied.{Copied}
use Rattle.commands.specs.Keeping.{IsDataFault, IsFolderFault}
use Rattle.commands.specs.declared.fault.Fault.{Fault}
use Rattle.commands.specs.declared.fault.Fault.TheVariants.{CannotWrite, Refused}
use Rattle.commands.specs.declared.fault.Refusal.TheVariants.{NotEmpty, Unsettled}

-- the line of a copy: how many blocks it has, and of how many events
abbrev pub backup_line : List ℕ → ℕ → ℕ → List ℕ
backup_line out blocks events =
    out ++ (codes ": " ++ (decimal blocks ++ (codes " blocks, " ++ (decimal events
    ++ codes " events\n"))))

-- the line was written that tells of the events of some store, which are accepted, and of the
-- blocks of the world that they make: no clause knows what the host's files have
pub record IsBackedUp (out : List ℕ) (old new : Option (List ℕ)) : Type 0 where
  pub told : Copied
  pub tells : TellsSome told
  pub written : Appends old new (backup_line out told.blocks told.events)

-- why a store is not copied: by its own folder; or by that of the copy, which cannot be written or
-- locked, or is not empty; or because its journal was begun anew each time that it was read
abbrev pub IsCopyFault : List ℕ → List ℕ → Fault → Type 0
IsCopyFault from out fault =
    IsDataFault from fault
    ⊎ (IsFolderFault out fault ⊎ ((fault ≡ Refused NotEmpty) ⊎ (fault ≡ Refused Unsettled)))

-- or because the writer failed
abbrev pub IsBackupFault : List ℕ → List ℕ → Fault → Type 0
IsBackupFault from out fault = IsCopyFault from out fault ⊎ (fault ≡ CannotWrite)
