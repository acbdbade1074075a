-- What a write comes to: what was published of it, and the reply that tells it.
use Rattle.std.specs.Prelude.{◌≡◌, ◌≢◌, ◌⊎◌, ℕ, ℤ, Bool, false, List, [], ◌∷◌, ◌++◌, int_lt}
use Rattle.std.specs.Prelude.{MatchBool}
use mathlib.Core.List.{IsPrefix}
use Rattle.head.specs.BatchRows.{batch_of_rows}
use Rattle.head.specs.Heads.{SnapshotParts}
use Rattle.head.specs.Laws.{all_of}
use Rattle.head.specs.Worlds.{Batch}
use Rattle.head.specs.declared.left.Left.{Left}
use Rattle.head.specs.declared.error.CommitError.{CommitError}
use Rattle.head.specs.declared.error.CommitError.TheVariants.{Journal, Memory}
use Rattle.snapshots.specs.Replays.{AreAccepted, IsOfStore}
use Rattle.snapshots.specs.Seats.{HasOneMoreEvent}
use Rattle.snapshots.specs.Sifts.{SiftView, IsSiftedOnceMet}
use Rattle.remote_requests.specs.declared.asked.Received.{Received}
use Rattle.remote_requests.specs.declared.refusal.Refusal.{Refusal}
use Rattle.remote_requests.specs.declared.refusal.Refusal.TheVariants.{NotKept, ClockBehind}
use Rattle.remote_requests.specs.declared.status.Status.{Status}
use Rattle.remote_requests.specs.Refusals.{status_of}
use Rattle.remote_http.specs.Cutting.{IsCutInto}
use Rattle.remote_http.specs.Text.{refusal_text}
use Rattle.remote_http.specs.Told.{all_left, kept_status, kept_text}
use Rattle.remote_http.specs.Workers.{Worker}

-- the reply is that of a refusal
pub record IsReplyOfRefusal (refusal : Refusal) (status : Status) (text : List ℕ) : Type 0 where
  pub number : status ≡ status_of refusal
  pub spelled : text ≡ refusal_text refusal

-- The part was sifted after a list of accepted events that begins with the list of the seat's last
-- receipt and has no event more under the seat's number. What joined is one event under that
-- number, behind the list, or none if nothing joined; then the seat stays. The pass has learnt the
-- receipt of all that, and this is what was left out.
pub record IsSiftedPart (opening : SnapshotParts) (part : Batch) (before after : Worker)
    (out : Left) : Type 0 where
  pub sift : SiftView
  pub sifted : IsSiftedOnceMet opening before.seat part sift
  pub accepted : AreAccepted opening sift.list
  pub counted : MatchBool sift.joined
      (HasOneMoreEvent before.seat after.seat sift.list) (after.seat ≡ before.seat)
  pub learnt : IsPrefix sift.list after.known.told
  pub told : IsPrefix before.known.told after.known.told
  pub seen : after.known.seen ≡ before.known.seen
  pub left : out ≡ sift.left

-- The parts were sifted one after another, each by what the store was then, and this is what each
-- left out. Others may have written in between.
abbrev pub ArePublished : SnapshotParts → List Batch → List Left → Worker → Worker → Type 0
ArePublished opening [] [] before after = after ≡ before
ArePublished opening [] (left ∷ lefts) before after = ⊥
ArePublished opening (part ∷ parts) [] before after = ⊥
ArePublished opening (part ∷ parts) (left ∷ lefts) before after =
    (middle : Worker) × IsSiftedPart opening part before middle left
    × ArePublished opening parts lefts middle after

-- some samples of the batch, from its first one on, were published in parts, and no more
pub record PublishesFront (opening : SnapshotParts) (xs : Batch)
    (before after : Worker) : Type 0 where
  pub parts : List Batch
  pub later : Batch
  pub whole : all_of parts ++ later ≡ xs
  pub lefts : List Left
  pub published : ArePublished opening parts lefts before after

-- All samples were sifted, in parts of at most 4,096. The reply tells what the request and the
-- parts left out.
pub record IsKeptReply (opening : SnapshotParts) (received : Received) (before after : Worker)
    (status : Status) (text : List ℕ) : Type 0 where
  pub parts : List Batch
  pub cut : IsCutInto (batch_of_rows received.rows.items) parts
  pub lefts : List Left
  pub published : ArePublished opening parts lefts before after
  pub number : status ≡ kept_status received (all_left lefts)
  pub spelled : text ≡ kept_text received (all_left lefts)

-- A part could not be kept, by `H11`. The parts before it stand.
pub record IsUnkeptReply (opening : SnapshotParts) (idle : Bool) (received : Received)
    (before after : Worker) (status : Status) (text : List ℕ) : Type 0 where
  pub front : PublishesFront opening (batch_of_rows received.rows.items) before after
  pub error : CommitError
  pub of_store : IsOfStore error
  pub no_memory : error ≢ Memory
  pub keeps : error ≡ Journal → idle ≡ false
  pub refused : IsReplyOfRefusal NotKept status text

-- nothing was done, since the clock is behind
pub record IsBehindReply (before after : Worker) (status : Status) (text : List ℕ) : Type 0 where
  pub refused : IsReplyOfRefusal ClockBehind status text
  pub same : after ≡ before

-- the reply to a write, by the first time of the clock at which writes are taken
abbrev pub IsWriteReply : SnapshotParts → Bool → ℤ → ℤ → Received → Worker → Worker → Status
    → List ℕ → Type 0
IsWriteReply opening idle first now received before after status text =
    MatchBool (int_lt now first)
    (IsBehindReply before after status text)
    (IsKeptReply opening received before after status text
    ⊎ IsUnkeptReply opening idle received before after status text)
