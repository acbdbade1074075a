-- The numbers of a log of marks.
use Rattle.std.specs.Prelude.{◌≡◌, List, length}
use Rattle.snapshots.specs.declared.entry.Mark.{Mark}
use Rattle.snapshots.specs.declared.tally.Tally.{Tally}
use Rattle.snapshots.specs.Marks.{accepted, list_of, tried_of, voids_of}

-- these are the numbers of the log
pub record IsTally (tally : Tally) (log : List Mark) : Type 0 where
  pub accepted : tally.accepted ≡ length (accepted log)
  pub listed : tally.listed ≡ length (list_of log)
  pub tried : tally.tried ≡ length (tried_of log)
  pub voids : tally.voids ≡ voids_of log
