-- When a journal is refused, and where.
use Rattle.std.specs.Prelude.{◌≡◌, ◌⊎◌, ◌<◌, ⊤, ℕ, true, false, List, [], ◌∷◌, ◌++◌, length, map}
use Rattle.std.specs.Prelude.{Result, Ok, Err, Vec}
use Rattle.std.specs.List.{Contains}
use Rattle.std.specs.declared.alloc.Global.{Global}
use Rattle.labels.specs.Names.{is_name}
use Rattle.matchers.specs.Patterns.{IsRefusedPattern}
use Rattle.matchers.specs.Satisfies.{takes_pattern}
use Rattle.matchers.specs.Views.{MatcherView}
use Rattle.journal.specs.Records.{file_of, header, magic, Recovers, Splits}
use Rattle.journal.specs.Records.{Begins, BeginsOtherwise, HasBadLength, IsDamaged}
use Rattle.journal.specs.declared.error.JournalError.{JournalError}
use Rattle.journal.specs.declared.error.JournalError.TheVariants as records
use Rattle.kept_walk.specs.Contents.{AreContents, AreEvents, AreFrom, BeginsWithHead, begins_event}
use Rattle.kept_walk.specs.Contents.{SpellsBy, SpellsEvent}
use Rattle.kept_walk.specs.Kept.{Event, batch, deletion, cut, event_of, Store}
use Rattle.kept_walk.specs.Numbered.{Names}
use Rattle.kept_walk.specs.declared.fault.EventFault.{EventFault}
use Rattle.kept_walk.specs.declared.fault.EventFault.TheVariants as faults
use Rattle.kept_walk.specs.declared.journal_state.Change.{Change}
use Rattle.kept_walk.specs.declared.error.KeptError.{KeptError}
use Rattle.kept_walk.specs.declared.error.KeptError.TheVariants as errors

-- the content is that of no event, after these names
abbrev pub IsNoEvent : Names → List ℕ → Type 0
IsNoEvent names content = (event : Event) (after : Names) → SpellsBy names content event after → ⊥

-- `Matcher::new` may refuse it: its name is none, or it has a pattern that is too long or that
-- `regex` may not build
abbrev pub MayBeRefused : MatcherView → Type 0
MayBeRefused m =
    (is_name m.name ≡ false)
    ⊎ ((takes_pattern m.op ≡ true) × ((256 < length m.text) ⊎ IsRefusedPattern m.text))

abbrev pub HasRefused : List MatcherView → Type 0
HasRefused matchers = (m : MatcherView) × Contains matchers m × MayBeRefused m

-- a deletion, one of whose matchers may be refused
abbrev pub HasRefusedMatcher : Event → Type 0
HasRefusedMatcher (batch runs) = ⊥
HasRefusedMatcher (deletion matchers from to) = HasRefused matchers
HasRefusedMatcher (cut time) = ⊥

-- the content is that of such a deletion
abbrev pub IsRefusedEvent : Names → List ℕ → Type 0
IsRefusedEvent names content =
    (event : Event) × (after : Names) × SpellsBy names content event after
    × HasRefusedMatcher event

-- the change that was made of an event, or a refusal of one of its matchers
abbrev pub Builds : Event → Result Change EventFault → Type 0
Builds event (Ok change) = event_of change ≡ event
Builds event (Err faults.Memory) = ⊤
Builds event (Err faults.Form) = ⊥
Builds event (Err faults.Matcher) = HasRefusedMatcher event

-- the change that a content spells which names no series by number, or why there is none
abbrev pub FindsPlain : List ℕ → Result Change EventFault → Type 0
FindsPlain content (Ok change) = SpellsEvent content (event_of change)
FindsPlain content (Err faults.Memory) = ⊤
FindsPlain content (Err faults.Form) = (event : Event) → SpellsEvent content event → ⊥
FindsPlain content (Err faults.Matcher) =
    (event : Event) × SpellsEvent content event × HasRefusedMatcher event

-- the change that a content spells after these names, with the names after it, or why there is none
abbrev pub FindsChange : Names → List ℕ → Names → Result Change EventFault → Type 0
FindsChange names content after (Ok change) = SpellsBy names content (event_of change) after
FindsChange names content after (Err faults.Memory) = ⊤
FindsChange names content after (Err faults.Form) = IsNoEvent names content
FindsChange names content after (Err faults.Matcher) = IsRefusedEvent names content

-- so many contents in front are those of events, and this is so of the next
pub record StopsAt (P : Names → List ℕ → Type 0) (contents : List (List ℕ)) (at : ℕ) : Type 0 where
  pub front : List (List ℕ)
  pub last : List ℕ
  pub rest : List (List ℕ)
  pub events : List Event
  pub names : Names
  pub whole : contents ≡ front ++ last ∷ rest
  pub before : AreFrom [] front events names
  pub counted : at ≡ length front
  pub stop : P names last

abbrev pub DeniesEvents : List (List ℕ) → KeptError → Type 0
DeniesEvents contents errors.Memory = ⊤
DeniesEvents contents (errors.Journal e) = ⊥
DeniesEvents contents errors.Head = ⊥
DeniesEvents contents (errors.Change at) = StopsAt IsNoEvent contents at
DeniesEvents contents (errors.Matcher at) = StopsAt IsRefusedEvent contents at

-- the refusal of the content behind so many events
abbrev pub refused_at : ℕ → EventFault → KeptError
refused_at at faults.Memory = errors.Memory
refused_at at faults.Form = errors.Change at
refused_at at faults.Matcher = errors.Matcher at

-- the changes that contents spell, or the first of them that is refused
abbrev pub FindsChanges : List (List ℕ) → Result (Vec Change Global) KeptError → Type 0
FindsChanges contents (Ok changes) = AreEvents contents (map event_of changes.items)
FindsChanges contents (Err e) = DeniesEvents contents e

-- contents that begin neither as a head does nor as an event does
abbrev pub HasNoHead : List (List ℕ) → Type 0
HasNoHead contents =
    (begins_event contents ≡ false)
    × ((store : Store) (behind : List (List ℕ)) → BeginsWithHead contents store behind → ⊥)

-- these stand behind the head; or the contents begin as an event does, and these are all
abbrev pub StandBehind : List (List ℕ) → List (List ℕ) → Type 0
StandBehind contents behind =
    ((store : Store) × BeginsWithHead contents store behind)
    ⊎ ((begins_event contents ≡ true) × (behind ≡ contents))

-- contents are refused so: no head stands in front, or what stands behind it is no event
abbrev pub DeniesContents : List (List ℕ) → KeptError → Type 0
DeniesContents contents errors.Memory = ⊤
DeniesContents contents (errors.Journal e) = ⊥
DeniesContents contents errors.Head = HasNoHead contents
DeniesContents contents (errors.Change at) =
    (behind : List (List ℕ)) × StandBehind contents behind × StopsAt IsNoEvent behind at
DeniesContents contents (errors.Matcher at) =
    (behind : List (List ℕ)) × StandBehind contents behind × StopsAt IsRefusedEvent behind at

-- the store whose head and events contents are, or the first refusal
abbrev pub FindsStore : List (List ℕ) → Result Store KeptError → Type 0
FindsStore contents (Ok store) = AreContents contents store
FindsStore contents (Err e) = DeniesContents contents e

-- a file is refused so as records
abbrev pub DeniesRecords : List ℕ → JournalError → Type 0
DeniesRecords file records.Magic = BeginsOtherwise magic file
DeniesRecords file records.Version = BeginsOtherwise header file × Begins magic file
DeniesRecords file (records.Checksum at) =
    (contents : List (List ℕ)) × Splits IsDamaged file contents × (at ≡ length (file_of contents))
DeniesRecords file (records.Length at) =
    (contents : List (List ℕ)) × Splits HasBadLength file contents
    × (at ≡ length (file_of contents))
DeniesRecords file e = ⊥

-- the refusal of a journal's records
abbrev pub of_records : JournalError → KeptError
of_records records.Memory = errors.Memory
of_records e = errors.Journal e

-- a file is refused so: the first check that failed. That memory ran out says nothing of it.
abbrev pub Denies : List ℕ → KeptError → Type 0
Denies file errors.Memory = ⊤
Denies file (errors.Journal e) = DeniesRecords file e
Denies file e = (contents : List (List ℕ)) × Recovers file contents × DeniesContents contents e

-- the answer is this store; or memory ran out, or a matcher of one of its deletions was refused
abbrev pub GivesStore : Store → Result Store KeptError → Type 0
GivesStore store (Ok kept) = kept ≡ store
GivesStore store (Err errors.Memory) = ⊤
GivesStore store (Err (errors.Journal e)) = ⊥
GivesStore store (Err errors.Head) = ⊥
GivesStore store (Err (errors.Change at)) = ⊥
GivesStore store (Err (errors.Matcher at)) =
    (event : Event) × Contains store.events event × HasRefusedMatcher event
