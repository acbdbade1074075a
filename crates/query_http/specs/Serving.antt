-- What a request gets: the reply to it, and what the pass and the seat of its worker are then.
use Rattle.std.specs.Prelude.{◌≡◌, ◌≢◌, ◌⊎◌, ℕ, Bool, true, false, List, [], Option, None, Some}
use Rattle.std.specs.Prelude.{Ok, Err, IfSome, codes, ⊤}
use Rattle.std.specs.Io.KnownBytes.{Appends}
use mathlib.Core.List.{IsPrefix}
use Rattle.serde_json.specs.Written.{compact_text}
use Rattle.matchers.specs.Views.{QueryView}
use Rattle.head.specs.BatchRows.{batch_of_rows}
use Rattle.head.specs.Codes.{commit_code}
use Rattle.head.specs.Heads.{SnapshotParts}
use Rattle.head.specs.Worlds.{Event, batch, deletion, cut}
use Rattle.head.specs.declared.error.CommitError.{CommitError}
use Rattle.head.specs.declared.error.CommitError.TheVariants as commit_error
use Rattle.snapshots.specs.declared.entry.Entry.{Entry}
use Rattle.snapshots.specs.Replays.{EndsWith, AreAccepted, IsOfStore, IsRefusedAt}
use Rattle.snapshots.specs.Seats.{SeatView, HasOneMoreEvent}
use Rattle.snapshots.specs.Views.{Known}
use Rattle.requests.specs.declared.refusal.Refusal.{Refusal}
use Rattle.requests.specs.declared.refusal.Refusal.TheVariants.{Unavailable, NotKept, NoRoom}
use Rattle.requests.specs.declared.request.Request.{Request}
use Rattle.requests.specs.declared.request.Request.TheVariants as asks
use Rattle.requests.specs.declared.status.Status.{Status}
use Rattle.requests.specs.declared.status.Status.TheVariants.{Done, Conflict}
use Rattle.requests.specs.Ending.{IsOfBytes}
use Rattle.requests.specs.Fitting.{IsFit}
use Rattle.requests.specs.Requests.{Meaning}
use Rattle.requests.specs.Refusals.{status_of}
use Rattle.requests.specs.Replies.{cause_data, reply_text, done_text, refusal_text}
use Rattle.answers.specs.declared.audited.AuditedAnswer.{AuditedAnswer}
use Rattle.answers.specs.Headline.{IsHeadline}
use Rattle.answers.specs.MergedRows.{rows_of}
use Rattle.answers.specs.Body.{body_text}
use Rattle.query_http.specs.Writing.{AppendsFront}
use Rattle.query_http.specs.declared.engine.Served.{Served}
use Rattle.query_http.specs.declared.engine.Served.TheVariants as served

-- a worker: what its pass knows, and its seat
pub record Worker : Type 0 where
  pub known : Known
  pub seat : SeatView

abbrev pub worker : Known → SeatView → Worker
worker known seat = record { known = known; seat = seat }

-- the worker has learnt no receipt and published no event, and has seen no less
pub record IsIdle (before after : Worker) : Type 0 where
  pub told : after.known.told ≡ before.known.told
  pub seat : after.seat ≡ before.seat
  pub seen : IsPrefix before.known.seen after.known.seen

-- the reply is that of a refusal
pub record IsReplyOfRefusal (refusal : Refusal) (status : Status) (text : List ℕ) : Type 0 where
  pub number : status ≡ status_of refusal
  pub spelled : text ≡ refusal_text refusal

-- the reply carries the audited answer of one snapshot of the store, the pass's next one
pub record IsAnswerReply (opening : SnapshotParts) (query : QueryView) (before after : Known)
    (status : Status) (text : List ℕ) : Type 0 where
  pub answer : AuditedAnswer
  pub headline : IsHeadline opening query before after answer
  pub number : status ≡ Done
  pub spelled : text ≡ reply_text Done (body_text answer.parts.items (rows_of answer))

-- The memory for replies has a bound, and no room for this one, by `H13`.
pub record IsCrowdedReply (bounded : Bool) (status : Status) (text : List ℕ) : Type 0 where
  pub bound : bounded ≡ true
  pub refused : IsReplyOfRefusal NoRoom status text

-- the reply to a query: its answer, or that the store lends no snapshot, or, only if the memory for
-- replies is bounded, that it has no room
abbrev pub IsQueryReply : SnapshotParts → Bool → QueryView → Known → Known → Status → List ℕ
    → Type 0
IsQueryReply opening bounded query before after status text =
    IsAnswerReply opening query before after status text
    ⊎ (IsReplyOfRefusal Unavailable status text ⊎ IsCrowdedReply bounded status text)

-- the sample at which an event is refused, if it is a sample
abbrev pub refused_at : CommitError → Option ℕ
refused_at (commit_error.OutOfBounds at) = Some at
refused_at (commit_error.OutOfOrder at) = Some at
refused_at (commit_error.Duplicate at) = Some at
refused_at commit_error.Limit = None
refused_at commit_error.CutTooLow = None
refused_at commit_error.TooManyParts = None
refused_at commit_error.Seat = None
refused_at commit_error.Journal = None
refused_at commit_error.Memory = None

-- what is said of an event that the store refuses
abbrev pub conflict_body : CommitError → List ℕ
conflict_body error = compact_text (cause_data (codes "H9") (commit_code error, refused_at error))

-- The event was accepted, and this is the reply. The seat has published one event more, and the
-- pass has learnt a receipt. The list of the receipt begins with that of the seat's last one and
-- ends with the event, under the seat's number; each of its events was accepted; and it has as many
-- of that number as the seat now counts.
pub record IsAcceptedReply (opening : SnapshotParts) (event : Event) (before after : Worker)
    (status : Status) (text : List ℕ) : Type 0 where
  pub receipt : List Entry
  pub ends : EndsWith event before.seat.number receipt
  pub accepted : AreAccepted opening receipt
  pub counted : HasOneMoreEvent before.seat after.seat receipt
  pub learnt : IsPrefix receipt after.known.told
  pub told : IsPrefix before.known.told after.known.told
  pub seen : after.known.seen ≡ before.known.seen
  pub number : status ≡ Done
  pub spelled : text ≡ done_text

-- The refusal is the store's own, or the event's step is refused so after a list of accepted events
-- that is held: what others have published, and no list that never was. It begins with the list of
-- the seat's last receipt and has no event more under the seat's number.
abbrev pub IsRefusedAfterHeld : SnapshotParts → (List Entry → Type 0) → SeatView → CommitError
    → Event → Type 0
IsRefusedAfterHeld opening held seat error event =
    ¬ IsOfStore error
    → (list : List Entry) × IsRefusedAt opening seat error event list × held list

-- The event was refused for the seat, or by its step after a list of events that is held; and
-- nothing changed.
pub record IsRefusedReply (opening : SnapshotParts) (held : List Entry → Type 0) (event : Event)
    (before after : Worker) (status : Status) (text : List ℕ) : Type 0 where
  pub error : CommitError
  pub found : IsRefusedAfterHeld opening held before.seat error event
  pub no_memory : error ≢ commit_error.Memory
  pub no_journal : error ≢ commit_error.Journal
  pub same : after ≡ before
  pub number : status ≡ Conflict
  pub spelled : text ≡ reply_text Conflict (conflict_body error)

-- The store is one that keeps events, and did not keep this one, by `H11`; and nothing changed.
pub record IsUnkeptReply (idle : Bool) (before after : Worker)
    (status : Status) (text : List ℕ) : Type 0 where
  pub keeps : idle ≡ false
  pub refused : IsReplyOfRefusal NotKept status text
  pub same : after ≡ before

-- the reply to an event, by whether the store keeps nothing (`idle`), and by which lists of events
-- a keeper of its kind has come to hold (`held`)
abbrev pub IsEventReply : SnapshotParts → Bool → (List Entry → Type 0) → Event → Worker → Worker
    → Status → List ℕ → Type 0
IsEventReply opening idle held event before after status text =
    IsAcceptedReply opening event before after status text
    ⊎ (IsRefusedReply opening held event before after status text
    ⊎ IsUnkeptReply idle before after status text)

-- the reply to a request: to its query, or to the one event that it spells (`bounded`: whether the
-- memory for replies is)
abbrev pub IsRequestReply : SnapshotParts → Bool → Bool → (List Entry → Type 0) → Request → Worker
    → Worker → Status → List ℕ → Type 0
IsRequestReply opening idle bounded held (asks.Select query) before after status text =
    IsQueryReply opening bounded query before.known after.known status text × IsIdle before after
IsRequestReply opening idle bounded held (asks.Write rows) before after status text =
    IsEventReply opening idle held (batch (batch_of_rows rows.items)) before after status text
IsRequestReply opening idle bounded held (asks.Delete matchers from to) before after status text =
    IsEventReply opening idle held (deletion matchers.items from to) before after status text
IsRequestReply opening idle bounded held (asks.Cut t) before after status text =
    IsEventReply opening idle held (cut t) before after status text

-- What bytes mean is a parameter of what follows: `Means`, or under rules `MeansUnder`.

-- the bytes that came are refused by their first failing check, `H1` to `H8` or `H12`, and nothing
-- changed
pub record TurnsAway (Asks : List ℕ → Meaning → Type 0) (input : Option (List ℕ))
    (before after : Worker) (status : Status) (text : List ℕ) : Type 0 where
  pub refusal : Refusal
  pub of_bytes : IsOfBytes refusal
  pub means : IfSome input (λ bytes. Asks bytes (Err refusal))
  pub refused : IsReplyOfRefusal refusal status text
  pub same : after ≡ before

-- the bytes that came ask a request, which is fit for a store, and this is the reply to it
pub record DoesAsked (Asks : List ℕ → Meaning → Type 0) (opening : SnapshotParts)
    (idle bounded : Bool) (held : List Entry → Type 0) (input : Option (List ℕ))
    (before after : Worker) (status : Status) (text : List ℕ) : Type 0 where
  pub request : Request
  pub means : IfSome input (λ bytes. Asks bytes (Ok request))
  pub fits : IsFit request
  pub done : IsRequestReply opening idle bounded held request before after status text

-- the reply to the bytes that came
abbrev pub IsReply : (List ℕ → Meaning → Type 0) → SnapshotParts → Bool → Bool
    → (List Entry → Type 0) → Option (List ℕ) → Worker → Worker → Status → List ℕ → Type 0
IsReply Asks opening idle bounded held input before after status text =
    TurnsAway Asks input before after status text
    ⊎ DoesAsked Asks opening idle bounded held input before after status text

-- the whole reply was written, and nothing else
pub record Replies (Asks : List ℕ → Meaning → Type 0) (opening : SnapshotParts)
    (idle bounded : Bool) (held : List Entry → Type 0) (input : Option (List ℕ))
    (before after : Worker) (old new : Option (List ℕ)) (status : Status) : Type 0 where
  pub text : List ℕ
  pub reply : IsReply Asks opening idle bounded held input before after status text
  pub written : Appends old new text

-- less than the whole reply was written, a prefix of it, and nothing else
pub record BeginsToReply (Asks : List ℕ → Meaning → Type 0) (opening : SnapshotParts)
    (idle bounded : Bool) (held : List Entry → Type 0) (input : Option (List ℕ))
    (before after : Worker) (old new : Option (List ℕ)) : Type 0 where
  pub status : Status
  pub text : List ℕ
  pub reply : IsReply Asks opening idle bounded held input before after status text
  pub written : AppendsFront old new text

-- how a connection was served, by what came and what was written
abbrev pub Serves : (List ℕ → Meaning → Type 0) → SnapshotParts → Bool → Bool
    → (List Entry → Type 0) → Option (List ℕ) → Worker → Worker → Option (List ℕ)
    → Option (List ℕ) → Served → Type 0
Serves Asks opening idle bounded held input before after old new (served.Replied status) =
    Replies Asks opening idle bounded held input before after old new status
Serves Asks opening idle bounded held input before after old new served.WriteFault =
    BeginsToReply Asks opening idle bounded held input before after old new
Serves Asks opening idle bounded held input before after old new served.Closed =
    IfSome input (λ bytes. bytes ≡ []) × (after ≡ before)
Serves Asks opening idle bounded held input before after old new served.ReadFault = after ≡ before
Serves Asks opening idle bounded held input before after old new served.NoMemory =
    IsIdle before after

-- nothing was replied
abbrev pub IsSilent : Served → Type 0
IsSilent (served.Replied status) = ⊥
IsSilent served.WriteFault = ⊥
IsSilent served.Closed = ⊤
IsSilent served.ReadFault = ⊤
IsSilent served.NoMemory = ⊤
