-- The folder of a kept store: where its files stand, and what is read of them.
use Rattle.std.specs.Prelude.{◌≡◌, ◌≢◌, ◌⊎◌, ⊤, ℕ, List, ◌++◌, map, take, length}
use Rattle.std.specs.Prelude.{None, Some, codes, decimal, string_bytes}
use Rattle.audit_command.specs.Reading.{AreFirstBytes, Host}
use Rattle.audit_command.specs.Walking.{AreTablesAt, IsFirstFault}
use Rattle.audit_command.specs.declared.fault.Fault.TheVariants as files
use Rattle.kept_walk.specs.Contents.{IsKept}
use Rattle.kept_walk.specs.Kept.{Store}
use Rattle.kept_walk.specs.Refusals.{Denies}
use Rattle.kept_folder.specs.Heads.{IsMarked}
use Rattle.kept_folder.specs.declared.fault.StoreFault.{StoreFault}
use Rattle.kept_folder.specs.declared.fault.StoreFault.TheVariants.{Files, Refused, Changes}
use Rattle.kept_folder.specs.declared.reading.FoundJournal.{FoundJournal}
use Rattle.kept_folder.specs.declared.reading.FoundStore.{FoundStore}

abbrev pub journal_path : List ℕ → List ℕ
journal_path folder = folder ++ codes "/journal"

abbrev pub block_path : List ℕ → ℕ → List ℕ
block_path folder number = folder ++ (codes "/blocks/" ++ decimal number)

abbrev pub block_paths : List ℕ → List ℕ → List (List ℕ)
block_paths folder numbers = map (block_path folder) numbers

-- how many bytes of a journal are read at most: more than a file has
abbrev pub most : ℕ
most = 4611686018427387904

-- the bytes are those of the journal of a store
abbrev pub AreJournal : Host → List ℕ → List ℕ → Type 0
AreJournal reads folder bytes = AreFirstBytes reads (journal_path folder) most bytes

-- a file that begins with these bytes may be found at the path, or one that begins otherwise, or
-- none
pub record StillBegins (reads : Host) (path bytes : List ℕ) : Type 0 where
  pub later : List ℕ
  pub found : reads path (Some later)
  pub same : take (length bytes) later ≡ bytes

pub record BeginsAnew (reads : Host) (path bytes : List ℕ) : Type 0 where
  pub later : List ℕ
  pub found : reads path (Some later)
  pub other : take (length bytes) later ≢ bytes

abbrev pub HasChanged : Host → List ℕ → List ℕ → Type 0
HasChanged reads path bytes = reads path None ⊎ BeginsAnew reads path bytes

-- what a journal of these bytes says, the checksum of its head, and what is known of the blocks
-- that the head names
pub record IsStoreOf (reads : Host) (folder bytes : List ℕ) (found : FoundStore) : Type 0 where
  pub kept : IsMarked bytes found.kept found.head
  pub blocks : AreTablesAt reads (block_paths folder found.kept.folders) found.tables.items

-- what is read of a folder: of one journal, which began so before the blocks were read and after
pub record IsStoreAt (reads : Host) (folder : List ℕ) (found : FoundStore) : Type 0 where
  pub bytes : List ℕ
  pub journal : AreJournal reads folder bytes
  pub store : IsStoreOf reads folder bytes found
  pub still : StillBegins reads (journal_path folder) bytes

-- what is read of the journal alone
pub record IsJournalAt (reads : Host) (folder : List ℕ) (found : FoundJournal) : Type 0 where
  pub bytes : List ℕ
  pub journal : AreJournal reads folder bytes
  pub kept : IsMarked bytes found.kept found.head

-- why nothing is read of a journal of these bytes
abbrev pub IsBytesFault : List ℕ → StoreFault → Type 0
IsBytesFault bytes (Refused e) = Denies bytes e
IsBytesFault bytes (Files files.Memory) = ⊤
IsBytesFault bytes fault = ⊥

-- why nothing is read of a journal of these bytes, and of the blocks that its head names
abbrev pub IsFaultOf : Host → List ℕ → List ℕ → StoreFault → Type 0
IsFaultOf reads folder bytes (Refused e) = Denies bytes e
IsFaultOf reads folder bytes (Files files.Memory) = ⊤
IsFaultOf reads folder bytes (Files fault) =
    (store : Store) × IsKept bytes store
    × IsFirstFault reads (block_paths folder store.folders) fault
IsFaultOf reads folder bytes Changes = ⊥

-- why the journal is not read: nothing can be read there, or memory ran out
abbrev pub IsJournalFault : Host → List ℕ → StoreFault → Type 0
IsJournalFault reads path (Files (files.CannotRead named)) =
    (string_bytes named ≡ path) × reads path None
IsJournalFault reads path (Files files.Memory) = ⊤
IsJournalFault reads path fault = ⊥

-- a fault of a journal that began so before the blocks were looked for and after
pub record IsFaultAt (reads : Host) (folder : List ℕ) (fault : StoreFault) : Type 0 where
  pub bytes : List ℕ
  pub journal : AreJournal reads folder bytes
  pub of : IsFaultOf reads folder bytes fault
  pub still : StillBegins reads (journal_path folder) bytes

-- a journal that was read, and was another behind that
pub record IsChanging (reads : Host) (folder : List ℕ) : Type 0 where
  pub bytes : List ℕ
  pub journal : AreJournal reads folder bytes
  pub changed : HasChanged reads (journal_path folder) bytes

-- why the folder is not read
abbrev pub IsStoreFault : Host → List ℕ → StoreFault → Type 0
IsStoreFault reads folder Changes = IsChanging reads folder
IsStoreFault reads folder fault =
    IsJournalFault reads (journal_path folder) fault ⊎ IsFaultAt reads folder fault

-- why the journal alone is not read
abbrev pub IsUnreadJournal : Host → List ℕ → StoreFault → Type 0
IsUnreadJournal reads folder fault =
    IsJournalFault reads (journal_path folder) fault
    ⊎ ((bytes : List ℕ) × AreJournal reads folder bytes × IsBytesFault bytes fault)
