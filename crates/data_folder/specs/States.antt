-- What a crash leaves of a store: a journal, and the files that its head names.
use Rattle.std.specs.Prelude.{◌≡◌, ◌≢◌, ◌⊎◌, ℕ, List, Option, None, Some}
use Rattle.std.specs.List.{AllByRecursion}
use Rattle.journal.specs.Records.{Recovers}
use Rattle.data_folder.specs.Folders.{HasFile, Left}
use Rattle.data_folder.specs.JournalFile.{journal_name, next_name}

-- a name and the bytes of its file
abbrev pub Named : Type 0
Named = List ℕ × List ℕ

-- a file that is no journal
abbrev pub IsApart : Named → Type 0
IsApart file = (file.0 ≢ journal_name) × (file.0 ≢ next_name)

-- these files are there for good
abbrev pub AreThere : {F : Type 0} → (F → List ℕ → Option (List ℕ) → Type 0)
    → (F → List ℕ → ℕ → Type 0) → List Named → F → Type 0
AreThere shows kept files f =
    AllByRecursion (λ (file : Named). HasFile shows kept file.0 file.1 f) files

-- what is left has these files
abbrev pub HasFiles : List Named → Left → Type 0
HasFiles files left = AllByRecursion (λ (file : Named). left file.0 ≡ Some file.1) files

-- what is left has a journal of these contents
abbrev pub HasJournal : List (List ℕ) → Left → Type 0
HasJournal contents left =
    (bytes : List ℕ) × (left journal_name ≡ Some bytes) × Recovers bytes contents

-- What a crash during a roll leaves: the old journal or the new one, whole, and all of the files.
pub record IsOldOrNew (named : List Named) (old new : List (List ℕ)) (left : Left) : Type 0 where
  pub files : HasFiles named left
  pub journal : HasJournal old left ⊎ HasJournal new left

-- what is left has these files, and a journal of these contents
pub record HasStore (named : List Named) (contents : List (List ℕ)) (left : Left) : Type 0 where
  pub files : HasFiles named left
  pub journal : HasJournal contents left

-- what a crash leaves while the first journal is written: none, or this one, whole
abbrev pub IsNoneOrNew : List (List ℕ) → Left → Type 0
IsNoneOrNew new left = (left journal_name ≡ None) ⊎ HasJournal new left
