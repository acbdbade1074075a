-- What the bytes of a connection get: the reply to them, and what the worker knows then.
use Rattle.std.specs.Prelude.{◌≡◌, ◌⊎◌, ◌≤◌, ℕ, ℤ, Bool, List, length, Ok, Err}
use Rattle.httparse.specs.Grammar.{RequestHead, ReadsRequest}
use Rattle.guard.specs.declared.rules.Denial.{Denial}
use Rattle.guard.specs.declared.rules.Rules.{Rules}
use Rattle.guard.specs.Judging.{judgement}
use Rattle.head.specs.BatchRows.{batch_of_rows}
use Rattle.head.specs.Heads.{SnapshotParts}
use Rattle.remote_requests.specs.declared.asked.Asked.{Asked}
use Rattle.remote_requests.specs.declared.asked.Asked.TheVariants.{Write, Read, BuildInfo}
use Rattle.remote_requests.specs.declared.asked.Asked.TheVariants.{List as ListAsked}
use Rattle.remote_requests.specs.declared.asked.Asked.TheVariants.{Home, Page}
use Rattle.remote_requests.specs.declared.came.Came.{Came}
use Rattle.remote_requests.specs.declared.refusal.Refusal.{Refusal}
use Rattle.remote_requests.specs.declared.status.Status.{Status}
use Rattle.remote_requests.specs.declared.status.Status.TheVariants.{Done}
use Rattle.remote_requests.specs.Admitting.{claims_of}
use Rattle.remote_requests.specs.Meaning.{MeansUnder, HasEnded}
use Rattle.remote_http.specs.declared.engine.TheConstants.{EARLIEST}
use Rattle.remote_http.specs.Listing.{IsListReply}
use Rattle.remote_http.specs.Paging.{IsHomeReply, IsPageReply}
use Rattle.remote_http.specs.Reading.{IsReadReply}
use Rattle.remote_http.specs.Text.{build_text}
use Rattle.remote_http.specs.Workers.{Worker, IsIdle}
use Rattle.remote_http.specs.Writing.{IsReplyOfRefusal, IsWriteReply, PublishesFront}

-- the reply tells the version
pub record IsBuildReply (version : List ℕ) (status : Status) (text : List ℕ) : Type 0 where
  pub number : status ≡ Done
  pub spelled : text ≡ build_text version

-- the reply to what is asked, where the version and the clock are these
abbrev pub IsAskedReply : List ℕ → ℤ → SnapshotParts → Bool → Asked → Worker → Worker → Status
    → List ℕ → Type 0
IsAskedReply version now opening idle (Write received) before after status text =
    IsWriteReply opening idle EARLIEST now received before after status text
IsAskedReply version now opening idle (Read readings) before after status text =
    IsReadReply opening readings.items before.known after.known status text × IsIdle before after
IsAskedReply version now opening idle BuildInfo before after status text =
    IsBuildReply version status text × (after ≡ before)
IsAskedReply version now opening idle (ListAsked listing) before after status text =
    IsListReply opening listing before.known after.known status text × IsIdle before after
IsAskedReply version now opening idle Home before after status text =
    IsHomeReply status text × (after ≡ before)
IsAskedReply version now opening idle (Page question) before after status text =
    IsPageReply opening question before.known after.known status text × IsIdle before after

-- the bytes that came are refused by their first failing check, and nothing changed
pub record TurnsAway (rules : Rules) (now : ℤ) (came : Came) (before after : Worker)
    (status : Status) (text : List ℕ) : Type 0 where
  pub refusal : Refusal
  pub ended : HasEnded came.end
  pub means : MeansUnder rules now came.bytes.now (Err refusal)
  pub refused : IsReplyOfRefusal refusal status text
  pub same : after ≡ before

-- the bytes that came ask this, and this is the reply to it
pub record DoesAsked (rules : Rules) (version : List ℕ) (now : ℤ) (came : Came)
    (opening : SnapshotParts) (idle : Bool) (before after : Worker) (status : Status)
    (text : List ℕ) : Type 0 where
  pub asked : Asked
  pub ended : HasEnded came.end
  pub means : MeansUnder rules now came.bytes.now (Ok asked)
  pub done : IsAskedReply version now opening idle asked before after status text

-- the reply to the bytes that came
abbrev pub IsReply : Rules → List ℕ → ℤ → Came → SnapshotParts → Bool → Worker → Worker → Status
    → List ℕ → Type 0
IsReply rules version now came opening idle before after status text =
    TurnsAway rules now came before after status text
    ⊎ DoesAsked rules version now came opening idle before after status text

-- what stands of what is asked, if there is no memory for the reply: of a write, some samples from
-- the first one on
abbrev pub HasFront : SnapshotParts → Asked → Worker → Worker → Type 0
HasFront opening (Write received) before after =
    PublishesFront opening (batch_of_rows received.rows.items) before after
HasFront opening (Read readings) before after = IsIdle before after
HasFront opening BuildInfo before after = after ≡ before
HasFront opening (ListAsked listing) before after = IsIdle before after
HasFront opening Home before after = after ≡ before
HasFront opening (Page question) before after = IsIdle before after

-- there was no memory for the reply to what the bytes ask
pub record BreaksOff (rules : Rules) (now : ℤ) (came : Came) (opening : SnapshotParts)
    (before after : Worker) : Type 0 where
  pub asked : Asked
  pub ended : HasEnded came.end
  pub means : MeansUnder rules now came.bytes.now (Ok asked)
  pub front : HasFront opening asked before after

-- what stands where no reply was made
abbrev pub IsSilent : Rules → ℤ → Came → SnapshotParts → Worker → Worker → Type 0
IsSilent rules now came opening before after =
    (after ≡ before) ⊎ BreaksOff rules now came opening before after

-- a head of at most 64 fields stands at the front, and the rules do not admit it
pub record IsBarred (rules : Rules) (bytes : List ℕ) : Type 0 where
  pub h : RequestHead
  pub rest : List ℕ
  pub reads : ReadsRequest bytes h rest
  pub few : length h.fields ≤ 64
  pub why : Denial
  pub denied : judgement rules (claims_of h) ≡ Err why
