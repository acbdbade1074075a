-- What the events of a list make.
use Rattle.std.specs.Prelude.{ℕ, Bool, true, false, List}
use Rattle.head.specs.Heads.{SnapshotParts}
use Rattle.snapshots.specs.declared.entry.Entry.{Entry}
use Rattle.snapshots.specs.declared.entry.Mark.{Mark}
use Rattle.snapshots.specs.Marks.{accepted, tried_of}
use Rattle.snapshots.specs.Replays.{IsAfter}
use Rattle.snapshots.specs.Seats.{AreCounts}

-- the snapshot, and the count of each seat, are what the entries make of the opening
pub record StandsFor (opening : SnapshotParts) (entries : List Entry) (parts : SnapshotParts)
    (counts : List ℕ) : Type 0 where
  pub after : IsAfter opening entries parts
  pub counted : AreCounts counts entries

-- the list that the next event is stepped after: all that was tried, while it waits; else what is
-- accepted
abbrev pub current : Bool → List Mark → List Entry
current true log = tried_of log
current false log = accepted log
