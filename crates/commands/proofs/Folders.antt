-- Why a folder is not opened.
use Rattle.std.proofs.Common.{◌≡◌, ℕ, List, inl, inr, ◌∙◌}
use Rattle.commands.specs.Keeping.{path_in, IsWriteFault, IsReadFault, IsFolderFault, IsDataFault}
use Rattle.commands.specs.declared.fault.Fault.{Fault}
use Rattle.commands.specs.declared.fault.Fault.TheVariants.{Words, Refused, CannotRead, CannotWrite}
use Rattle.commands.specs.declared.fault.Fault.TheVariants.{CannotWriteAt, Locked}
use Rattle.commands.specs.declared.fault.Fault.TheVariants.{CannotListen, NoListener, NoThread}
use Rattle.commands.specs.declared.fault.Fault.TheVariants.{Memory}

-- what stands at a path in it cannot be written
pub write_within : (folder name path : List ℕ) (fault : Fault) → path ≡ path_in folder name
    → IsWriteFault path fault → IsFolderFault folder fault
write_within folder name path (CannotWriteAt at) is h = inr (name, h ∙ is)
write_within folder name path Memory is h = tt
write_within folder name path (Words error) is h = absurd h
write_within folder name path (Refused refusal) is h = absurd h
write_within folder name path (CannotRead at) is h = absurd h
write_within folder name path CannotWrite is h = absurd h
write_within folder name path (Locked at holder) is h = absurd h
write_within folder name path (CannotListen port) is h = absurd h
write_within folder name path NoListener is h = absurd h
write_within folder name path NoThread is h = absurd h

-- or cannot be read
pub read_within : (folder name path : List ℕ) (fault : Fault) → path ≡ path_in folder name
    → IsReadFault path fault → IsFolderFault folder fault
read_within folder name path (CannotRead at) is h = inr (name, h ∙ is)
read_within folder name path Memory is h = tt
read_within folder name path (Words error) is h = absurd h
read_within folder name path (Refused refusal) is h = absurd h
read_within folder name path (CannotWriteAt at) is h = absurd h
read_within folder name path CannotWrite is h = absurd h
read_within folder name path (Locked at holder) is h = absurd h
read_within folder name path (CannotListen port) is h = absurd h
read_within folder name path NoListener is h = absurd h
read_within folder name path NoThread is h = absurd h

-- or the folder itself cannot
pub write_folder : (folder : List ℕ) (fault : Fault) → IsWriteFault folder fault
    → IsFolderFault folder fault
write_folder folder (CannotWriteAt at) h = inl h
write_folder folder Memory h = tt
write_folder folder (Words error) h = absurd h
write_folder folder (Refused refusal) h = absurd h
write_folder folder (CannotRead at) h = absurd h
write_folder folder CannotWrite h = absurd h
write_folder folder (Locked at holder) h = absurd h
write_folder folder (CannotListen port) h = absurd h
write_folder folder NoListener h = absurd h
write_folder folder NoThread h = absurd h

-- then its store is not opened
pub folder_is_data : (folder : List ℕ) (fault : Fault) → IsFolderFault folder fault
    → IsDataFault folder fault
folder_is_data folder (Refused refusal) h = absurd h
folder_is_data folder (CannotWriteAt at) h = h
folder_is_data folder (CannotRead at) h = h
folder_is_data folder (Locked at holder) h = h
folder_is_data folder Memory h = h
folder_is_data folder (Words error) h = h
folder_is_data folder CannotWrite h = h
folder_is_data folder (CannotListen port) h = h
folder_is_data folder NoListener h = h
folder_is_data folder NoThread h = h
