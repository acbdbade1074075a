-- What a worker of the port of Prometheus hands to the room in front of it.
use Rattle.std.specs.Prelude.{◌≡◌, ◌⊎◌, ℕ, ℤ, Bool, List, []}
use Rattle.guard.specs.declared.rules.Rules.{Rules}
use Rattle.head.specs.Heads.{SnapshotParts}
use Rattle.head.specs.Worlds.{Event}
use Rattle.snapshots.specs.Keeping.{PublishesHeld}
use Rattle.waiting_room.specs.declared.reading.End.{End as RoomEnd}
use Rattle.waiting_room.specs.declared.reading.End.TheVariants as room
use Rattle.remote_requests.specs.declared.came.Came.{Came}
use Rattle.remote_requests.specs.declared.came.End.{End}
use Rattle.remote_requests.specs.declared.came.End.TheVariants as ends
use Rattle.remote_requests.specs.declared.status.Status.{Status}
use Rattle.remote_requests.specs.Meaning.{IsLost}
use Rattle.remote_http.specs.Serving.{IsReply}
use Rattle.remote_http.specs.Workers.{Worker}

-- how what came ended, as far as it matters for what it asks
abbrev pub end_of : RoomEnd → End
end_of room.Whole = ends.Whole
end_of room.Astray = ends.Whole
end_of room.Closed = ends.Closed
end_of room.CutShort = ends.Closed
end_of room.Silent = ends.Silent
end_of room.Late = ends.Silent
end_of room.Failed = ends.Failed

-- The text is the reply to these bytes, which ended so, of a worker of the store under these rules,
-- with this version and at some time of the clock. What it published is held by a keeper, behind
-- the events from before, and stays.
pub record IsReplyTo {K S : Type 0} (rules : Rules) (version : List ℕ)
    (holds : K → List Event → Type 0) (stays : S → List Event → Type 0) (events : List Event)
    (opening : SnapshotParts) (idle : Bool) (bytes : List ℕ) (end : RoomEnd)
    (text : List ℕ) : Type 0 where
  pub now : ℤ
  pub came : Came
  pub same : came.bytes.now ≡ bytes
  pub ended : came.end ≡ end_of end
  pub before : Worker
  pub after : Worker
  pub status : Status
  pub reply : IsReply rules version now came opening idle before after status text
  pub held : PublishesHeld holds stays events before.seat after.seat

-- no reply is owed: no byte came, or the client was lost before its request was whole
abbrev pub IsUnasked : List ℕ → RoomEnd → Type 0
IsUnasked bytes end = (bytes ≡ []) ⊎ IsLost (end_of end)

-- the text is the reply to these bytes, or it is empty and none is owed
abbrev pub IsTold : {K S : Type 0} → Rules → List ℕ → (K → List Event → Type 0)
    → (S → List Event → Type 0) → List Event → SnapshotParts → Bool → List ℕ → RoomEnd
    → List ℕ → Type 0
IsTold rules version holds stays events opening idle bytes end text =
    ((text ≡ []) × IsUnasked bytes end)
    ⊎ IsReplyTo rules version holds stays events opening idle bytes end text
