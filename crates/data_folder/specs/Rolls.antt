-- A journal that is a file of a folder.
use Rattle.std.specs.Prelude.{◌≡◌, ℕ, Bool, true, List, Option, length}
use Rattle.std.specs.List.{AllByRecursion}
use Rattle.journal.specs.Records.{file_of, IsContent}
use Rattle.data_folder.specs.Folders.{HasFile}
use Rattle.data_folder.specs.JournalFile.{journal_name}

-- the file `journal` has exactly these contents, all of them for good
pub record Keeps {F : Type 0} (shows : F → List ℕ → Option (List ℕ) → Type 0)
    (kept : F → List ℕ → ℕ → Type 0) (sound : F → Bool) (contents : List (List ℕ))
    (f : F) (len : ℕ) : Type 0 where
  pub each : AllByRecursion IsContent contents
  pub file : HasFile shows kept journal_name (file_of contents) f
  pub is_sound : sound f ≡ true
  pub counted : len ≡ length (file_of contents)
