-- What was found in a folder.
use Rattle.std.specs.Prelude.{ℕ, List, Option}
use Rattle.data_folder.specs.Folders.{HasFile}
use Rattle.data_folder.specs.JournalFile.{journal_name}
use Rattle.head.specs.Heads.{BlockPart}
use Rattle.store_folder.specs.declared.journals.FoundJournal.{FoundJournal}
use Rattle.store_folder.specs.Holding.{AreAt}
use Rattle.store_folder.specs.Journals.{IsFoundJournal}

-- the folder has the journal, and the blocks that its head names, for good
pub record IsFoundStore {F : Type 0} (shows : F → List ℕ → Option (List ℕ) → Type 0)
    (kept : F → List ℕ → ℕ → Type 0) (j : FoundJournal) (parts : List BlockPart) (f : F)
    : Type 0 where
  pub file : List ℕ
  pub has : HasFile shows kept journal_name file f
  pub journal : IsFoundJournal file j
  pub blocks : AreAt shows kept j.head.places parts f
