-- What the file of a store's journal stands for, and what reading one answers.
use Rattle.std.specs.Prelude.{◌≡◌, ◌++◌, ◌-◌, ⊤, ℕ, List, Result, Ok, Err, Vec, length}
use Rattle.std.specs.declared.alloc.Global.{Global}
use Rattle.head.specs.Worlds.{Event}
use Rattle.event_text.specs.declared.error.TextError.TheVariants.{Memory as NoText}
use Rattle.event_journal.specs.Holding.{Stands}
use Rattle.event_journal.specs.Naming.{Spell}
use Rattle.event_journal.specs.Outcome.{MayRefuse, RefusesAt}
use Rattle.event_journal.specs.Starting.{DeniesFile}
use Rattle.head_record.specs.Outcome.{is_memory}
use Rattle.head_record.specs.Reading.{head_of}
use Rattle.head_record.specs.Saved.{Saved}
use Rattle.head_record.specs.Spelling.{head_texts, IsSaved}
use Rattle.journal.specs.declared.error.JournalError.{JournalError}
use Rattle.journal.specs.declared.error.JournalError.TheVariants.{Memory as NoRecord}
use Rattle.journal.specs.Records.{file_of, Recovers}
use Rattle.name_table.specs.Names.{Label}
use Rattle.store_folder.specs.declared.error.ReadError.{ReadError}
use Rattle.store_folder.specs.declared.error.ReadError.TheVariants as errors
use Rattle.store_folder.specs.declared.journals.FoundJournal.{FoundJournal}
use Rattle.wire.specs.Outcome.{Fails}

-- the file stands for a head and the events after it: these are its whole records, before a torn
-- end
pub record IsJournalOf (file : List ℕ) (saved : Saved) (events : List Event) : Type 0 where
  pub head : IsSaved saved
  pub stands : Stands (head_texts saved) file events

-- the contents are those of a head, and such as spell the events after it; these series are named
-- then
pub record AreContents (contents : List (List ℕ)) (saved : Saved) (events : List Event)
    (names : List Label) : Type 0 where
  pub head : IsSaved saved
  pub after : List (List ℕ)
  pub spell : Spell after events names
  pub whole : contents ≡ head_texts saved ++ after

-- a refusal that can come of a journal of these events: memory's, or that of a deletion's matcher
abbrev pub MayRefuseJournal : List Event → ReadError → Type 0
MayRefuseJournal events (errors.Journal e) = e ≡ NoRecord
MayRefuseJournal events (errors.Head refused) = refused.error ≡ NoText
MayRefuseJournal events (errors.Event refused) = MayRefuse events refused.error

-- the answer is this head and these events, or a refusal that can come of their journal
abbrev pub GivesContents : Saved → List Event → Result (Saved × Vec Event Global) ReadError
    → Type 0
GivesContents saved events (Ok x) = (x.0 ≡ saved) × (x.1.items ≡ events)
GivesContents saved events (Err e) = MayRefuseJournal events e

abbrev pub GivesJournal : Saved → List Event → Result FoundJournal ReadError → Type 0
GivesJournal saved events (Ok j) = (j.head ≡ saved) × (j.events.items ≡ events)
GivesJournal saved events (Err e) = MayRefuseJournal events e

-- what was found in the file is what it stands for, so many bytes long; what is behind it is torn
pub record IsFoundJournal (file : List ℕ) (j : FoundJournal) : Type 0 where
  pub is : IsJournalOf file j.head j.events.items
  pub counted : j.len ≡ length (file_of (head_texts j.head ++ is.stands.contents))
  pub named : j.names ≡ is.stands.names
  pub torn : j.torn ≡ length file - j.len

-- the file is refused as records so; that memory ran out says nothing of it
abbrev pub DeniesRecords : List ℕ → JournalError → Type 0
DeniesRecords file NoRecord = ⊤
DeniesRecords file e = DeniesFile file e

-- contents are refused so: no head stands in front, or what stands after it is no event
abbrev pub DeniesContents : List (List ℕ) → ReadError → Type 0
DeniesContents contents (errors.Journal e) = ⊥
DeniesContents contents (errors.Head refused) = Fails is_memory refused (head_of contents)
DeniesContents contents (errors.Event refused) =
    (saved : Saved) × (after : List (List ℕ)) × IsSaved saved
    × (contents ≡ head_texts saved ++ after) × RefusesAt after refused.at refused.error

-- a file is refused as the journal of a store so: the first check that failed
abbrev pub DeniesJournal : List ℕ → ReadError → Type 0
DeniesJournal file (errors.Journal e) = DeniesRecords file e
DeniesJournal file (errors.Head refused) =
    (contents : List (List ℕ)) × Recovers file contents
    × DeniesContents contents (errors.Head refused)
DeniesJournal file (errors.Event refused) =
    (contents : List (List ℕ)) × Recovers file contents
    × DeniesContents contents (errors.Event refused)
