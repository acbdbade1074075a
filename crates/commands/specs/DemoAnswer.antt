-- What the demo writes, and why it ends before that.
use Rattle.std.specs.Prelude.{◌≡◌, ◌≢◌, ℕ, List, [], Option, Ok}
use Rattle.std.specs.List.{Contains}
use Rattle.std.specs.Io.KnownBytes.{Appends}
use Rattle.matchers.specs.Views.{QueryView}
use Rattle.head.specs.Blocks.{opening_of}
use Rattle.head.specs.Heads.{SnapshotParts, world_of}
use Rattle.head.specs.Worlds.{Event, replayed}
use Rattle.head.specs.declared.error.CommitError.{CommitError}
use Rattle.head.specs.declared.error.CommitError.TheVariants.{Journal}
use Rattle.snapshots.specs.declared.entry.Entry.{Entry}
use Rattle.snapshots.specs.Replays.{IsRefusedAfter, EndsWith}
use Rattle.snapshots.specs.Seats.{SeatView}
use Rattle.snapshots.specs.declared.error.OpenError.TheVariants as store
use Rattle.snapshots.specs.declared.error.SnapshotError.TheVariants as snapshot
use Rattle.answers.specs.Audited.{IsAudited}
use Rattle.answers.specs.declared.audited.AuditedAnswer.{AuditedAnswer}
use Rattle.commands.specs.Demo.{demo_events}
use Rattle.commands.specs.Faults.{commit_fault}
use Rattle.commands.specs.Printed.{line_text}
use Rattle.commands.specs.Selecting.{IsWritingFault}
use Rattle.commands.specs.declared.fault.Fault.{Fault}
use Rattle.commands.specs.declared.fault.Fault.TheVariants.{Refused}
use Rattle.commands.specs.declared.fault.Refusal.TheVariants.{Open, Snapshot}

-- an audited answer to the query, of what an empty store is after these events
pub record IsAnswerAfter (events : List Event) (query : QueryView)
    (answer : AuditedAnswer) : Type 0 where
  pub snapshot : SnapshotParts
  pub replayed : replayed (world_of (opening_of [])) events ≡ Ok (world_of snapshot)
  pub audited : IsAudited query snapshot answer

-- such an answer was written, and a line feed
pub record WritesAnswerAfter (events : List Event) (query : QueryView)
    (old new : Option (List ℕ)) : Type 0 where
  pub answer : AuditedAnswer
  pub is : IsAnswerAfter events query answer
  pub written : Appends old new (line_text answer)

-- the event was refused so under the seat, by a refusal that the store could give, which keeps
-- nothing
abbrev pub IsCommitFault : SnapshotParts → SeatView → Event → Fault → Type 0
IsCommitFault opening seat event fault =
    (error : CommitError) × (fault ≡ commit_fault error) × (error ≢ Journal)
    × IsRefusedAfter opening seat error event

-- the list ends with this event, under the number of some seat
abbrev pub HasLast : Event → List Entry → Type 0
HasLast event entries = (seat : ℕ) × EndsWith event seat entries

-- why the demo ends before it is done: memory or the writer failed, the store had no room for
-- another reader, it refused a batch under a seat, or it had no snapshot
pub data IsDemoFault (fault : Fault) : Type 0 where
  by_writing : IsWritingFault fault → IsDemoFault fault
  by_opening : fault ≡ Refused (Open store.Unavailable) → IsDemoFault fault
  by_commit : (seat : SeatView) → (event : Event) → Contains demo_events event
      → IsCommitFault (opening_of []) seat event fault
      → IsDemoFault fault
  by_snapshot : fault ≡ Refused (Snapshot snapshot.Unavailable) → IsDemoFault fault
