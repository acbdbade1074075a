-- What a worker has done when it ends.
use Rattle.std.specs.Prelude.{◌≡◌, ◌≤◌, ℕ, Bool, ◌+◌, List, Option, length, map}
use mathlib.Core.List.{IsPrefix}
use Rattle.head.specs.Heads.{SnapshotParts}
use Rattle.snapshots.specs.declared.entry.Entry.{Entry}
use Rattle.guard.specs.declared.rules.Rules.{Rules}
use Rattle.query_http.specs.Serving.{Worker}
use Rattle.server.specs.Sessions.{Session, Ending, AreServed, AreFirstToCome, AreAdded}

-- The worker served so many connections, one after another, the first of those that were to come,
-- and each ended as its connection was served.
pub record Works (rules : Rules) (opening : SnapshotParts) (idle bounded : Bool)
    (held : List Entry → Type 0) (before after : Worker)
    (coming left : Option (List (List ℕ))) (past ended : Option (List Ending))
    (count : ℕ) : Type 0 where
  pub sessions : List Session
  pub counted : length sessions ≡ count
  pub served : AreServed rules opening idle bounded held before sessions after
  pub first : AreFirstToCome coming left sessions
  pub told : AreAdded past ended (map (λ s. s.ending) sessions)

-- The worker knows no less, sits where it sat, and has published at most so many events more.
pub record IsFarther (before after : Worker) (count : ℕ) : Type 0 where
  pub seen : IsPrefix before.known.seen after.known.seen
  pub told : IsPrefix before.known.told after.known.told
  pub number : after.seat.number ≡ before.seat.number
  pub least : before.seat.count ≤ after.seat.count
  pub most : after.seat.count ≤ before.seat.count + count
