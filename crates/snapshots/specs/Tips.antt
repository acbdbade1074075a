-- What holds of the tip of a store.
use Rattle.std.specs.Prelude.{◌≡◌, ℕ, Bool, false, List}
use Rattle.head.specs.Heads.{SnapshotParts}
use Rattle.head.specs.declared.error.CommitError.{CommitError}
use Rattle.head.specs.declared.error.CommitError.TheVariants.{Journal}
use Rattle.snapshots.specs.declared.entry.Mark.{Mark}
use Rattle.snapshots.specs.Keeping.{AreWaiting, IsOfKeeping}
use Rattle.snapshots.specs.Marks.{accepted, list_of, tried_of}
use Rattle.snapshots.specs.Standings.{StandsFor}

-- what is published, and the records of the events that wait and are not sealed
pub record IsBehind (opening : SnapshotParts) (idle : Bool) (log : List Mark)
    (parts : SnapshotParts) (counts bytes : List ℕ) : Type 0 where
  pub stands : StandsFor opening (accepted log) parts counts
  pub waiting : AreWaiting idle bytes (list_of log) (tried_of log)

-- a refusal for events that are given up: memory's, or the journal's where events are kept
pub record IsFailure (idle : Bool) (e : CommitError) : Type 0 where
  pub keeping : IsOfKeeping e
  pub needed : e ≡ Journal → idle ≡ false
