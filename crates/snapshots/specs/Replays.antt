-- What a list of published events makes of the opening snapshot.
use Rattle.std.specs.Prelude.{◌≡◌, ℕ, List, [], ◌∷◌, ◌++◌, Ok, Option, MatchOption, map}
use Rattle.std.specs.List.{AllByRecursion}
use mathlib.Core.List.{IsPrefix}
use Rattle.head.specs.Batches.{CopiesFew}
use Rattle.head.specs.Joins.{IsNoJoin}
use Rattle.head.specs.Kept.{KeepsBlocks, frame_of}
use Rattle.head.specs.Worlds.{Event, stepped, replayed}
use Rattle.head.specs.Heads.{SnapshotParts, world_of}
use Rattle.head.specs.Outcomes.{IsStepRefusal}
use Rattle.head.specs.declared.error.CommitError.{CommitError}
use Rattle.head.specs.declared.error.CommitError.TheVariants.{OutOfBounds, OutOfOrder, Duplicate}
use Rattle.head.specs.declared.error.CommitError.TheVariants.{Limit, CutTooLow, TooManyParts, Seat}
use Rattle.head.specs.declared.error.CommitError.TheVariants.{Journal, Memory}
use Rattle.snapshots.specs.declared.entry.Entry.{Entry}
use Rattle.snapshots.specs.Seats.{SeatView, IsMetBy}

-- the events of these entries
abbrev pub events_in : List Entry → List Event
events_in entries = map (λ e. e.event) entries

-- the event takes the snapshot to the other one: the world of that is the step's, its blocks are
-- those that the event leaves, and few samples were copied for it
pub record Steps (s : SnapshotParts) (event : Event) (t : SnapshotParts) : Type 0 where
  pub world : stepped (world_of s) event ≡ Ok (world_of t)
  pub kept : KeepsBlocks event s t.blocks
  pub copied : CopiesFew event t.copied

-- the events, one after another, take the snapshot to the other one
abbrev pub Leads : SnapshotParts → List Event → SnapshotParts → Type 0
Leads s [] t = t ≡ s
Leads s (event ∷ events) t =
    (next : SnapshotParts) × Steps s event next × Leads next events t

-- none of these events joins blocks
abbrev pub AreJoinless : List Event → Type 0
AreJoinless events = AllByRecursion IsNoJoin events

-- the blocks of the one snapshot stand first in the other, each with its range, its references and
-- its label sets: all but the samples that deletions took
abbrev pub KeepsFrames : SnapshotParts → SnapshotParts → Type 0
KeepsFrames s t = IsPrefix (map frame_of s.blocks) (map frame_of t.blocks)

-- The snapshot is what the entries' events make of the opening. Its world is the replay of the
-- events from the opening's world. As long as no event joins blocks, the opening's blocks stand
-- first in it, each with the range, the references and the label sets that it had, whatever was
-- committed, deleted and cut. It was reached event by event, so before the first event it is the
-- opening itself.
pub record IsAfter (opening : SnapshotParts) (entries : List Entry)
    (s : SnapshotParts) : Type 0 where
  pub replay : replayed (world_of opening) (events_in entries) ≡ Ok (world_of s)
  pub blocks : AreJoinless (events_in entries) → KeepsFrames opening s
  pub reached : Leads opening (events_in entries) s

-- the refusal is the store's and says nothing of the event: the seat's, the journal's or memory's
abbrev pub IsOfStore : CommitError → Type 0
IsOfStore (OutOfBounds at) = ⊥
IsOfStore (OutOfOrder at) = ⊥
IsOfStore (Duplicate at) = ⊥
IsOfStore Limit = ⊥
IsOfStore CutTooLow = ⊥
IsOfStore TooManyParts = ⊥
IsOfStore Seat = Unit {0}
IsOfStore Journal = Unit {0}
IsOfStore Memory = Unit {0}

-- the refusal is the store's, or exactly the one of the event's step on the snapshot
abbrev pub IsEventRefusal : CommitError → SnapshotParts → Event → Type 0
IsEventRefusal e s event = ¬ IsOfStore e → IsStepRefusal e (stepped (world_of s) event)

-- the list ends with this event, under this number of a seat
abbrev pub EndsWith : Event → ℕ → List Entry → Type 0
EndsWith event seat entries =
    (before : List Entry) × (entries ≡ before ++ record { event = event; seat = seat } ∷ [])

-- some snapshot has the world after these entries, so each of them was accepted
abbrev pub AreAccepted : SnapshotParts → List Entry → Type 0
AreAccepted opening entries = (s : SnapshotParts) × IsAfter opening entries s

-- the event's step is refused so after some list of accepted events that the seat may meet
pub record IsRefusedOnceMet (opening : SnapshotParts) (seat : SeatView) (e : CommitError)
    (event : Event) : Type 0 where
  pub before : List Entry
  pub snapshot : SnapshotParts
  pub after : IsAfter opening before snapshot
  pub met : IsMetBy seat before
  pub step : IsStepRefusal e (stepped (world_of snapshot) event)

-- the event's step is refused so after this very list, which the seat may meet
pub record IsRefusedAt (opening : SnapshotParts) (seat : SeatView) (e : CommitError)
    (event : Event) (list : List Entry) : Type 0 where
  pub snapshot : SnapshotParts
  pub after : IsAfter opening list snapshot
  pub met : IsMetBy seat list
  pub step : IsStepRefusal e (stepped (world_of snapshot) event)

-- The refusal is the store's own, or there is a receipt, and the event's step is refused so after
-- the receipt's list: what others have published, and no list that never was.
abbrev pub IsRefusedBy : SnapshotParts → SeatView → CommitError → Event → Option (List Entry)
    → Type 0
IsRefusedBy opening seat e event met =
    ¬ IsOfStore e → MatchOption met ⊥ (λ list. IsRefusedAt opening seat e event list)

-- The refusal is one that a store can give, whatever others have published: its own, of which no
-- more is said, or that of the event's step after a list that the seat may meet.
abbrev pub IsRefusedAfter : SnapshotParts → SeatView → CommitError → Event → Type 0
IsRefusedAfter opening seat e event = ¬ IsOfStore e → IsRefusedOnceMet opening seat e event
