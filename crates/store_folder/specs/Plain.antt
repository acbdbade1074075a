-- Journals of events alone.
use Rattle.std.specs.Prelude.{◌≡◌, ◌⊎◌, ℕ, Bool, true, false, ◌&&◌, nat_le, List, [], Option, None}
use Rattle.std.specs.Prelude.{Ok, Some, slice_get}
use Rattle.data_folder.specs.Folders.{HasFile, Left}
use Rattle.data_folder.specs.JournalFile.{journal_name}
use Rattle.event_journal.specs.Holding.{Stands}
use Rattle.event_journal.specs.Outcome.{RefusesAt}
use Rattle.event_text.specs.declared.error.TextError.TheVariants.{Kind}
use Rattle.head.specs.Blocks.{opening_of}
use Rattle.head.specs.Heads.{world_of}
use Rattle.head.specs.Replaying as replaying
use Rattle.head.specs.Worlds.{Event, World, replayed}
use Rattle.head_record.specs.Spelling.{head_texts}
use Rattle.journal.specs.Records.{Recovers}
use Rattle.journal.specs.declared.error.JournalError.TheVariants.{Memory as NoRecord}
use Rattle.store_folder.specs.declared.error.ReadError.{ReadError}
use Rattle.store_folder.specs.declared.error.ReadError.TheVariants as read
use Rattle.store_folder.specs.declared.error.StartError.{StartError}
use Rattle.store_folder.specs.declared.error.StartError.TheVariants as errors
use Rattle.store_folder.specs.Faults.{DeniesStore}
use Rattle.store_folder.specs.Journals.{DeniesRecords}
use Rattle.store_folder.specs.Starting.{nothing_saved}
use Rattle.store_folder.specs.States.{HasKept}

-- whether a content of this kind is an event
abbrev pub is_event_kind : Option ℕ → Bool
is_event_kind None = false
is_event_kind (Some kind) = nat_le 1 kind && nat_le kind 3

-- whether a file may be a journal of events alone: the first content, behind the header of the file
-- and that of its record, begins as an event
abbrev pub begins_plain : List ℕ → Bool
begins_plain file = is_event_kind (slice_get file 13)

-- The file stands for these events alone, of which there are some: they are its whole records,
-- before a torn end. A file that has no whole record, as one whose only record is damaged, is no
-- journal of events alone, though it may begin as one.
abbrev pub StandsAlone : List ℕ → List Event → Type 0
StandsAlone file events = Stands [] file events × (events ≡ [] → ⊥)

-- contents are refused as events so: there is none, or one of them is no event
abbrev pub DeniesEvents : List (List ℕ) → ReadError → Type 0
DeniesEvents contents (read.Journal e) = ⊥
DeniesEvents contents (read.Head refused) =
    (contents ≡ []) × (refused.at ≡ 0) × (refused.error ≡ Kind)
DeniesEvents contents (read.Event refused) = RefusesAt contents refused.at refused.error

-- a file is refused as a journal of events alone so: the first check that failed
abbrev pub DeniesPlain : List ℕ → ReadError → Type 0
DeniesPlain file (read.Journal e) = DeniesRecords file e
DeniesPlain file (read.Head refused) =
    (contents : List (List ℕ)) × Recovers file contents
    × DeniesEvents contents (read.Head refused)
DeniesPlain file (read.Event refused) =
    (contents : List (List ℕ)) × Recovers file contents
    × DeniesEvents contents (read.Event refused)

-- a store that has nothing does not accept these events so, or memory ran out
abbrev pub DeniesAdmitting : List Event → StartError → Type 0
DeniesAdmitting events errors.Medium = ⊥
DeniesAdmitting events (errors.Journal e) = e ≡ read.Journal NoRecord
DeniesAdmitting events (errors.Block unread) = ⊥
DeniesAdmitting events (errors.Head e) = ⊥
DeniesAdmitting events (errors.Event refused) =
    replaying.RefusesAt (world_of (opening_of [])) events refused.at refused.error

-- a store that has nothing accepts these events
abbrev pub AreAdmitted : List Event → Type 0
AreAdmitted events = (w : World) × (replayed (world_of (opening_of [])) events ≡ Ok w)

-- there is no text of such a file with a head so
abbrev pub DeniesText : List ℕ → StartError → Type 0
DeniesText file errors.Medium = ⊥
DeniesText file (errors.Journal e) = DeniesPlain file e
DeniesText file (errors.Block unread) = ⊥
DeniesText file (errors.Head e) = ⊥
DeniesText file (errors.Event refused) =
    (events : List Event) × Stands [] file events
    × replaying.RefusesAt (world_of (opening_of [])) events refused.at refused.error

-- What is left has the journal as it was; or, if that was one of events alone, the journal of these
-- events after the head of a store that has nothing.
abbrev pub HasEither : List ℕ → Left → Type 0
HasEither file left =
    (left journal_name ≡ Some file)
    ⊎ ((events : List Event) × (begins_plain file ≡ true) × StandsAlone file events
    × HasKept (head_texts nothing_saved) events left)

-- A folder is not opened as a store so: it is not read as one, or its journal may be one of events
-- alone, and is refused, or one of the events is not accepted by a store that has nothing.
abbrev pub DeniesFolder : {F : Type 0} → (F → List ℕ → Option (List ℕ) → Type 0)
    → (F → List ℕ → ℕ → Type 0) → (F → Bool) → F → StartError → Type 0
DeniesFolder shows kept failed f e =
    DeniesStore shows kept failed f e
    ⊎ ((file : List ℕ) × (begins_plain file ≡ true) × HasFile shows kept journal_name file f
    × DeniesText file e)

-- whether what is found under the journal's name may be a journal of events alone
abbrev pub may_be_plain : Option (List ℕ) → Bool
may_be_plain None = false
may_be_plain (Some file) = begins_plain file
