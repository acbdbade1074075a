-- What a sifted commit of a batch comes to.
use Rattle.std.specs.Prelude.{◌≡◌, ◌≢◌, ℕ, Bool, true, false, List, [], ◌∷◌, ◌++◌}
use Rattle.head.specs.Heads.{SnapshotParts, world_of}
use Rattle.head.specs.Laws.{reasons}
use Rattle.head.specs.Sifting.{sifted}
use Rattle.head.specs.Telling.{told_of}
use Rattle.head.specs.Worlds.{Batch, Event, batch}
use Rattle.head.specs.declared.left.Left.{Left}
use Rattle.snapshots.specs.declared.entry.Entry.{Entry}
use Rattle.snapshots.specs.Asking.{AreAsked}
use Rattle.snapshots.specs.Replays.{IsAfter}
use Rattle.snapshots.specs.Seats.{SeatView, IsMetBy}

-- a sifted commit: the list that it tells of, what was left out, and whether a sample joined
pub record SiftView : Type 0 where
  pub list : List Entry
  pub left : Left
  pub joined : Bool

-- what is kept is one event under the seat's number; it is none if no sample is kept
abbrev pub entries_of : ℕ → Batch → List Entry
entries_of seat [] = []
entries_of seat (x ∷ xs) = record { event = batch (x ∷ xs); seat = seat } ∷ []

abbrev pub has_samples : Batch → Bool
has_samples [] = false
has_samples (x ∷ xs) = true

-- The batch was sifted by the world of the snapshot, which these entries make: the list goes on
-- with what was kept, all that was left out is told, and joined says whether anything was kept.
pub record IsSiftedAt (seat : ℕ) (before : List Entry) (snapshot : SnapshotParts) (xs : Batch)
    (s : SiftView) : Type 0 where
  pub list : s.list ≡ before ++ entries_of seat (sifted (world_of snapshot) xs).kept
  pub left : s.left ≡ told_of (reasons (sifted (world_of snapshot) xs).left)
  pub joined : s.joined ≡ has_samples (sifted (world_of snapshot) xs).kept

-- What is kept of the batch was asked for, if it is anything, whatever list of events that were
-- asked for and accepted it is sifted after, of those that the seat may meet.
abbrev pub AsksSifted : (Event → ℕ → ℕ → Type 0) → SnapshotParts → SeatView → Batch → Type 0
AsksSifted asked opening seat xs =
    (before : List Entry) (s : SnapshotParts) → AreAsked asked before → IsAfter opening before s
    → IsMetBy seat before → (sifted (world_of s) xs).kept ≢ []
    → asked (batch (sifted (world_of s) xs).kept) seat.number seat.count

-- the batch was sifted so after some list of accepted events that the seat may meet
pub record IsSiftedOnceMet (opening : SnapshotParts) (seat : SeatView) (xs : Batch)
    (s : SiftView) : Type 0 where
  pub before : List Entry
  pub snapshot : SnapshotParts
  pub after : IsAfter opening before snapshot
  pub met : IsMetBy seat before
  pub sifted : IsSiftedAt seat.number before snapshot xs s
