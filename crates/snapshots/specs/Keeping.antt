-- How the events of a store are kept.
use Rattle.std.specs.Prelude.{◌≡◌, ◌⊎◌, ℕ, Bool, true, false, List, [], ◌∷◌, ◌++◌, Ok}
use Rattle.std.specs.Prelude.{MatchBool}
use mathlib.Core.List.{IsPrefix}
use Rattle.head.specs.Heads.{SnapshotParts, world_of}
use Rattle.head.specs.Worlds.{Event, World, replayed}
use Rattle.head.specs.declared.error.CommitError.{CommitError}
use Rattle.head.specs.declared.error.CommitError.TheVariants.{OutOfBounds, OutOfOrder, Duplicate}
use Rattle.head.specs.declared.error.CommitError.TheVariants.{Limit, CutTooLow, TooManyParts, Seat}
use Rattle.head.specs.declared.error.CommitError.TheVariants.{Journal, Memory}
use Rattle.keeper.specs.Finding.{IsOfAll}
use Rattle.keeper.specs.Together.{SpellTogether}
use Rattle.keeper.specs.declared.error.KeepError.{KeepError}
use Rattle.keeper.specs.declared.error.KeepError.TheVariants as keep
use Rattle.snapshots.specs.Marks.{accepted, list_of, tried_of}
use Rattle.snapshots.specs.Asking.{AreAsked}
use Rattle.snapshots.specs.Replays.{events_in, IsAfter}
use Rattle.snapshots.specs.Seats.{SeatView}
use Rattle.snapshots.specs.Standings.{StandsFor}
use Rattle.snapshots.specs.declared.entry.Mark.{Mark}
use Rattle.snapshots.specs.declared.entry.Entry.{Entry}

-- the bytes are the record of the event; or they are none, for keepers that keep nothing
abbrev pub IsRecordFor : Bool → Event → List ℕ → Type 0
IsRecordFor idle event bytes =
    SpellTogether bytes (event ∷ []) ⊎ ((idle ≡ true) × (bytes ≡ []))

-- the bytes are the records of these events; keepers that keep nothing are handed none
abbrev pub SpellAll : Bool → List Event → List ℕ → Type 0
SpellAll idle events bytes = MatchBool idle (bytes ≡ []) (SpellTogether bytes events)

-- these are all of those events; or they are none, for keepers that keep nothing
abbrev pub AreAllOrNone : Bool → List Event → List Event → Type 0
AreAllOrNone idle events more = (more ≡ events) ⊎ ((idle ≡ true) × (more ≡ []))

-- what was tried is what is listed and the events that wait beside it, of which these are the
-- records
pub record AreWaiting (idle : Bool) (bytes : List ℕ) (listed tried : List Entry) : Type 0 where
  pub more : List Entry
  pub parts : tried ≡ listed ++ more
  pub spelled : SpellAll idle (events_in more) bytes

-- Events that are to be published together: the log that has sealed them, and what they make.
-- Nothing waits beside them in that log.
pub record IsSealed (opening : SnapshotParts) (log : List Mark) (parts : SnapshotParts)
    (counts : List ℕ) : Type 0 where
  pub whole : list_of log ≡ tried_of log
  pub stands : StandsFor opening (list_of log) parts counts

-- Events that are to be kept and published together: the log that has sealed them, what they make,
-- and their records. Nothing waits beside them in that log.
pub record IsGroup (opening : SnapshotParts) (idle : Bool) (log : List Mark)
    (parts : SnapshotParts) (counts bytes : List ℕ) : Type 0 where
  pub whole : list_of log ≡ tried_of log
  pub stands : StandsFor opening (list_of log) parts counts
  pub waiting : AreWaiting idle bytes (accepted log) (list_of log)

-- what is to be kept of a store: the events from before it was opened, and those of its list
abbrev pub kept_of : List Event → List Entry → List Event
kept_of before entries = before ++ events_in entries

-- Each list of events that were asked for, each after those before it, may be kept behind the
-- events from before the store was opened.
abbrev pub MayBeKept : (List Event → Type 0) → (Event → ℕ → ℕ → Type 0) → SnapshotParts
    → List Event → Type 0
MayBeKept may asked opening before =
    (entries : List Entry) (s : SnapshotParts) → AreAsked asked entries → IsAfter opening entries s
    → may (kept_of before entries)

-- The entries that a keeper of this kind holds in some state, behind the events from before the
-- store was opened, are kept if they stay: there is the token of it, if there is any entry. Nothing
-- else says of entries that they are.
abbrev pub HeldIsKept : {K S : Type 0} → (K → List Event → Type 0) → (S → List Event → Type 0)
    → (List Entry → Type 0) → List Event → Type 0
HeldIsKept {K} {S} holds stays kept before =
    (keeper : K) (entries : List Entry) → holds keeper (kept_of before entries)
    → (entries ≡ []) ⊎ ((token : S) × stays token (kept_of before entries)) → kept entries

-- A keeper of this kind has come to hold these entries: what it holds in some state are the events
-- from before the store was opened, and those of a list that begins with the entries. And they
-- stay: there is the token of it, if there is any entry.
pub record AreHeld {K S : Type 0} (holds : K → List Event → Type 0)
    (stays : S → List Event → Type 0) (before : List Event) (entries : List Entry) : Type 0 where
  pub keeper : K
  pub all : List Entry
  pub begins : IsPrefix entries all
  pub held : holds keeper (kept_of before all)
  pub stay : (all ≡ []) ⊎ ((token : S) × stays token (kept_of before all))

-- the seat is as it was, or all that it has seen is held
abbrev pub PublishesHeld : {K S : Type 0} → (K → List Event → Type 0)
    → (S → List Event → Type 0) → List Event → SeatView → SeatView → Type 0
PublishesHeld holds stays before old new = (new ≡ old) ⊎ AreHeld holds stays before new.seen

-- If events are kept, those from before the store was opened make of the first world the one that
-- it opened with.
abbrev pub OpensAsKept : Bool → World → List Event → SnapshotParts → Type 0
OpensAsKept idle first before opening =
    idle ≡ false → replayed first before ≡ Ok (world_of opening)

-- If events are kept, all that are kept make of the first world that of the snapshot: a start that
-- finds them goes on with it.
abbrev pub IsOfAllKept : Bool → World → List Event → List Entry → SnapshotParts → Type 0
IsOfAllKept idle first before entries s =
    idle ≡ false → replayed first (kept_of before entries) ≡ Ok (world_of s)

-- a list on the way from one to another: the first one, or one that begins with it and with which
-- the second one begins
abbrev pub IsBetween : List Entry → List Entry → List Entry → Type 0
IsBetween from to entries = (entries ≡ from) ⊎ (IsPrefix from entries × IsPrefix entries to)

-- these are what is kept of such a list
abbrev pub AreKeptBetween : List Event → List Entry → List Entry → List Event → Type 0
AreKeptBetween before from to events =
    (entries : List Entry) × IsBetween from to entries × (events ≡ kept_of before entries)

-- the world of what is kept of such a list
abbrev pub IsOfKeptBetween : World → List Event → List Entry → List Entry → World → Type 0
IsOfKeptBetween first before from to w =
    (events : List Event) × AreKeptBetween before from to events × IsOfAll first events w

-- the refusal of a store whose keeper refuses so
abbrev pub keep_refusal : KeepError → CommitError
keep_refusal keep.Memory = Memory
keep_refusal keep.TooLong = Journal
keep_refusal keep.Failed = Journal
keep_refusal keep.Closed = Journal

-- the keeper was closed before the call, or had no room, or could not write in it
abbrev pub IsHindered : {K : Type 0} → (K → Bool) → (K → Type 0) → (K → Bool) → K → K → Type 0
IsHindered closed full failed old new =
    (closed old ≡ true) ⊎ (full old ⊎ (failed new ≡ true))

-- the refusal is the journal's or memory's
abbrev pub IsOfKeeping : CommitError → Type 0
IsOfKeeping (OutOfBounds at) = ⊥
IsOfKeeping (OutOfOrder at) = ⊥
IsOfKeeping (Duplicate at) = ⊥
IsOfKeeping Limit = ⊥
IsOfKeeping CutTooLow = ⊥
IsOfKeeping TooManyParts = ⊥
IsOfKeeping Seat = ⊥
IsOfKeeping Journal = Unit {0}
IsOfKeeping Memory = Unit {0}
