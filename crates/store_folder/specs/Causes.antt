-- Why a journal is not begun anew, as far as its fault tells.
use Rattle.std.specs.Prelude.{◌≡◌, Bool, true}
use Rattle.data_folder.specs.declared.apart.ApartError.TheVariants as apart
use Rattle.data_folder.specs.declared.rolling.RollError.TheVariants as rolls
use Rattle.store_folder.specs.declared.error.RollFault.{RollFault}
use Rattle.store_folder.specs.declared.error.RollFault.TheVariants as roll
use Rattle.store_folder.specs.declared.error.WriteFault.{WriteFault}
use Rattle.store_folder.specs.declared.error.WriteFault.TheVariants as write

-- a block is not written: where its fault tells that the folder failed, it has
abbrev pub IsWriteCause : Bool → WriteFault → Type 0
IsWriteCause failed write.Memory = Unit {0}
IsWriteCause failed write.Medium = failed ≡ true
IsWriteCause failed (write.File apart.Kept) = Unit {0}
IsWriteCause failed (write.File apart.Memory) = Unit {0}
IsWriteCause failed (write.File apart.Medium) = failed ≡ true
IsWriteCause failed (write.Block e) = Unit {0}
IsWriteCause failed write.Numbers = Unit {0}

-- and no other journal takes the place of one: where its fault tells that it was closed, it was
abbrev pub IsRollCause : Bool → Bool → RollFault → Type 0
IsRollCause closed failed (roll.Text e) = Unit {0}
IsRollCause closed failed (roll.Folder rolls.Closed) = closed ≡ true
IsRollCause closed failed (roll.Folder rolls.NotWritten) = failed ≡ true
IsRollCause closed failed (roll.Folder rolls.Lost) = failed ≡ true
IsRollCause closed failed roll.Memory = Unit {0}
IsRollCause closed failed (roll.Block fault) = IsWriteCause failed fault
