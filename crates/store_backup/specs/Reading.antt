-- A store that is read while it may be changed.
use Rattle.std.specs.Prelude.{◌≡◌, ◌⊎◌, ◌++◌, ℕ, Bool, true, List, Option, None}
use Rattle.data_folder.specs.Folders.{HasFile}
use Rattle.data_folder.specs.JournalFile.{journal_name}
use Rattle.head.specs.Heads.{BlockPart}
use Rattle.head.specs.Worlds.{Event}
use Rattle.head_record.specs.Saved.{Saved}
use Rattle.store_folder.specs.Codes.{cause_of}
use Rattle.store_folder.specs.Faults.{DeniesStore, TellsFiles}
use Rattle.store_folder.specs.Refusals.{IsRefusal}
use Rattle.store_folder.specs.declared.error.StartCause.TheVariants.{Refused}
use Rattle.store_folder.specs.declared.error.StartError.{StartError}
use Rattle.store_folder.specs.declared.error.StartError.TheVariants.{Medium}
use Rattle.store_joiner.specs.Stores.{HasStore}
use Rattle.store_backup.specs.declared.error.CopyFault.{CopyFault}
use Rattle.store_backup.specs.declared.error.CopyFault.TheVariants as faults

-- From old to new the store of this head, these blocks and these events was read: it lies there,
-- for good. If the folder tells what its files have, it is the one that lay there.
pub record IsRead {F : Type 0} (shows : F → List ℕ → Option (List ℕ) → Type 0)
    (kept : F → List ℕ → ℕ → Type 0) (saved : Saved) (parts : List BlockPart)
    (events : List Event) (old new : F) : Type 0 where
  pub store : HasStore shows kept saved parts events new
  pub only : TellsFiles shows → (head : Saved) (blocks : List BlockPart) (late : List Event)
      → HasStore shows kept head blocks late old
      → (saved ≡ head) × (parts ≡ blocks) × (events ≡ late)

-- the journal that was read last begins with the one that was read first
pub record IsSettled {F : Type 0} (shows : F → List ℕ → Option (List ℕ) → Type 0)
    (kept : F → List ℕ → ℕ → Type 0) (source again : F) : Type 0 where
  pub first : List ℕ
  pub rest : List ℕ
  pub before : HasFile shows kept journal_name first source
  pub after : HasFile shows kept journal_name (first ++ rest) again

-- it does not
pub record HasChanged {F : Type 0} (shows : F → List ℕ → Option (List ℕ) → Type 0)
    (kept : F → List ℕ → ℕ → Type 0) (source again : F) : Type 0 where
  pub first : List ℕ
  pub last : List ℕ
  pub before : HasFile shows kept journal_name first source
  pub after : HasFile shows kept journal_name last again
  pub differs : (rest : List ℕ) → last ≡ first ++ rest → ⊥

-- a folder has no journal, or reading it failed
abbrev pub DeniesText : {F : Type 0} → (F → List ℕ → Option (List ℕ) → Type 0) → (F → Bool) → F
    → CopyFault → Type 0
DeniesText shows failed f fault =
    ((fault ≡ faults.NoStore) × shows f journal_name None)
    ⊎ ((fault ≡ faults.Source Medium) × (failed f ≡ true))

-- a folder is refused as a store so
abbrev pub DeniesFolder : {F : Type 0} → (F → List ℕ → Option (List ℕ) → Type 0)
    → (F → List ℕ → ℕ → Type 0) → (F → Bool) → F → CopyFault → Type 0
DeniesFolder shows kept failed f fault =
    DeniesText shows failed f fault
    ⊎ ((e : StartError) × (fault ≡ faults.Source e) × DeniesStore shows kept failed f e)

-- the store of a folder, of which these are two views, is not read so
abbrev pub DeniesSource : {F : Type 0} → (F → List ℕ → Option (List ℕ) → Type 0)
    → (F → List ℕ → ℕ → Type 0) → (F → Bool) → F → F → CopyFault → Type 0
DeniesSource shows kept failed source again fault =
    ((fault ≡ faults.Changed) × HasChanged shows kept source again)
    ⊎ (DeniesFolder shows kept failed source fault ⊎ DeniesText shows failed again fault)

-- if the source is refused, some folder has to be refused so by a start
abbrev pub IsOfStart : CopyFault → Type 0
IsOfStart fault =
    (e : StartError) → fault ≡ faults.Source e → cause_of e ≡ Refused → IsRefusal e
