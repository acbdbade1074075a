-- Why a journal is not begun anew, as far as its fault tells.
use Rattle.std.proofs.Common.{◌≡◌, Bool, true, false, Result, Err}
use Rattle.std.specs.Prelude.{IsErrOf}
use Rattle.data_folder.specs.declared.apart.ApartError.{ApartError}
use Rattle.data_folder.specs.declared.apart.ApartError.TheVariants as apart
use Rattle.data_folder.specs.declared.rolling.RollError.{RollError}
use Rattle.data_folder.specs.declared.rolling.RollError.TheVariants as rolls
use Rattle.store_folder.specs.declared.error.RollFault.{RollFault}
use Rattle.store_folder.specs.declared.error.RollFault.TheVariants as roll
use Rattle.store_folder.specs.declared.error.WriteFault.{WriteFault}
use Rattle.store_folder.specs.declared.error.WriteFault.TheVariants as write
use Rattle.store_folder.specs.Causes.{IsRollCause, IsWriteCause}

-- of a file that is not written
pub apart_cause : {A : Type 0} (r : Result A ApartError) (e : ApartError) (failed : Bool)
    → r ≡ Err e → (IsErrOf r apart.Medium → failed ≡ true)
    → IsWriteCause failed (write.File e)
apart_cause r apart.Kept failed is medium = tt
apart_cause r apart.Memory failed is medium = tt
apart_cause r apart.Medium failed is medium = medium is

-- of a journal that does not take another's place
pub folder_cause : {A : Type 0} (r : Result A RollError) (e : RollError)
    (was closed failed : Bool) → r ≡ Err e → (IsErrOf r rolls.Closed → was ≡ true)
    → (IsErrOf r rolls.NotWritten → (closed ≡ false) × (failed ≡ true))
    → (IsErrOf r rolls.Lost → failed ≡ true) → IsRollCause was failed (roll.Folder e)
folder_cause r rolls.Closed was closed failed is shut written lost = shut is
folder_cause r rolls.NotWritten was closed failed is shut written lost = (written is).1
folder_cause r rolls.Lost was closed failed is shut written lost = lost is

-- what has failed has failed from then on

write_lasts : (failed later : Bool) (e : WriteFault) → (failed ≡ true → later ≡ true)
    → IsWriteCause failed e → IsWriteCause later e
write_lasts failed later write.Memory lasts cause = tt
write_lasts failed later write.Medium lasts cause = lasts cause
write_lasts failed later (write.File apart.Kept) lasts cause = tt
write_lasts failed later (write.File apart.Memory) lasts cause = tt
write_lasts failed later (write.File apart.Medium) lasts cause = lasts cause
write_lasts failed later (write.Block e) lasts cause = tt
write_lasts failed later write.Numbers lasts cause = tt

pub cause_lasts : (closed failed later : Bool) (e : RollFault) → (failed ≡ true → later ≡ true)
    → IsRollCause closed failed e → IsRollCause closed later e
cause_lasts closed failed later (roll.Text e) lasts cause = tt
cause_lasts closed failed later (roll.Folder rolls.Closed) lasts cause = cause
cause_lasts closed failed later (roll.Folder rolls.NotWritten) lasts cause = lasts cause
cause_lasts closed failed later (roll.Folder rolls.Lost) lasts cause = lasts cause
cause_lasts closed failed later roll.Memory lasts cause = tt
cause_lasts closed failed later (roll.Block fault) lasts cause =
    write_lasts failed later fault lasts cause
