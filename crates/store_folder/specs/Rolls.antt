-- When a journal may begin with a new head.
use Rattle.std.specs.Prelude.{◌≡◌, ℕ, Bool, List, [], Option, Ok}
use Rattle.data_folder.specs.declared.journal_file.JournalFile.{JournalFile}
use Rattle.data_folder.specs.Folders.{HasFile, Left}
use Rattle.data_folder.specs.JournalFile.{journal_name}
use Rattle.event_journal.specs.Holding.{contents_with}
use Rattle.head.specs.Heads.{BlockPart, world_of}
use Rattle.head.specs.Resuming.{MayStand}
use Rattle.head.specs.Worlds.{Event, replayed}
use Rattle.head_record.specs.Saved.{Saved}
use Rattle.head_record.specs.Spelling.{head_texts}
use Rattle.journal.specs.Records.{file_of}
use Rattle.store_folder.specs.Holding.{AreAt, HoldsStore}
use Rattle.store_folder.specs.Journals.{IsJournalOf}
use Rattle.store_folder.specs.Origins.{Origin}
use Rattle.store_folder.specs.States.{started}

-- The events before are held; the head says the world of those after it and what the values mean,
-- it may be a snapshot with its blocks, and their files are there for good. Both are the same
-- events where nothing more is kept.
pub record MayRoll {F : Type 0} (shows : F → List ℕ → Option (List ℕ) → Type 0)
    (kept : F → List ℕ → ℕ → Type 0) (sound : F → Bool) (moment : F → ℕ)
    (left_since : F → ℕ → Left → Type 0) (first : Origin) (m : JournalFile F) (len : ℕ)
    (closed : Bool) (events after : List Event) (saved : Saved) (parts : List BlockPart)
    : Type 0 where
  pub holds : HoldsStore shows kept sound moment left_since first m len closed events
  pub world : replayed first.world after ≡ Ok (world_of (started saved parts))
  pub values : saved.values ≡ first.values
  pub may : MayStand (started saved parts)
  pub blocks : AreAt shows kept saved.places parts m.folder

-- the file of a journal of this head and no events
abbrev pub head_file : Saved → List ℕ
head_file saved = file_of (contents_with (head_texts saved) [])

-- The file `journal` is exactly that of this head and no events, all of it for good; and it is what
-- a start reads as this head, each of its samples in its place, and no events.
pub record HasHeadAlone {F : Type 0} (shows : F → List ℕ → Option (List ℕ) → Type 0)
    (kept : F → List ℕ → ℕ → Type 0) (saved : Saved) (f : F) : Type 0 where
  pub file : HasFile shows kept journal_name (head_file saved) f
  pub is : IsJournalOf (head_file saved) saved []
