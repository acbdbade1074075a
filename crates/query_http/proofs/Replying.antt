-- Replies, put together from what is known of their parts.
use Rattle.std.proofs.Common.{◌≡◌, ◌≢◌, ℕ, Bool, false, List, [], Option, IfSome, Result, Ok, Err}
use Rattle.std.proofs.Common.{IfOk, inl}
use Rattle.std.specs.Prelude.{◌⊎◌}
use Rattle.std.proofs.Common.{inr, refl, sym, ap, subst, ◌∙◌, codes, None, Some}
use Rattle.serde_json.specs.Written.{compact_text}
use Rattle.matchers.specs.Views.{QueryView}
use Rattle.head.specs.Codes.{commit_code}
use Rattle.head.specs.Heads.{SnapshotParts}
use Rattle.head.specs.Worlds.{Event}
use Rattle.head.specs.declared.error.CommitError.{CommitError}
use Rattle.head.specs.declared.error.CommitError.TheVariants.{OutOfBounds, OutOfOrder, Duplicate}
use Rattle.head.specs.declared.error.CommitError.TheVariants.{Limit, CutTooLow, TooManyParts, Seat}
use Rattle.head.specs.declared.error.CommitError.TheVariants.{Journal, Memory}
use Rattle.snapshots.specs.declared.entry.Entry.{Entry}
use Rattle.snapshots.specs.Replays.{IsRefusedBy, IsOfStore}
use Rattle.snapshots.specs.Seats.{SeatView}
use Rattle.snapshots.specs.Views.{Known}
use Rattle.snapshots.proofs.Prefixes.{prefix_self, prefix_trans}
use mathlib.Core.List.{IsPrefix}
use Rattle.requests.specs.declared.refusal.Cause.{Cause}
use Rattle.requests.specs.declared.refusal.Refusal.TheVariants.{Refused, Unavailable, NotKept}
use Rattle.requests.specs.declared.status.Status.{Status}
use Rattle.requests.specs.declared.status.Status.TheVariants.{Done, Conflict}
use Rattle.guard.specs.Judging.{no_rules}
use Rattle.guard.specs.declared.rules.Rules.{Rules}
use Rattle.requests.specs.Admitting.{MeansUnder, IsBarred}
use Rattle.requests.specs.Reading.{Means}
use Rattle.requests.specs.Refusals.{told_cause}
use Rattle.requests.specs.Requests.{Meaning}
use Rattle.requests.proofs.AdmittedTexts.{asks_nothing, means_unruled}
use Rattle.requests.specs.Replies.{cause_data, reply_text}
use Rattle.query_http.specs.declared.reply.Reply.{Reply}
use Rattle.answers.specs.declared.audited.AuditedAnswer.{AuditedAnswer}
use Rattle.answers.specs.Headline.{IsHeadline}
use Rattle.answers.specs.MergedRows.{rows_of}
use Rattle.query_http.specs.Reply.{text_of}
use Rattle.answers.specs.Body.{body_text}
use Rattle.query_http.specs.Serving.{Worker, IsIdle, IsAnswerReply, IsReplyOfRefusal, IsQueryReply}
use Rattle.query_http.specs.Serving.{IsEventReply}
use Rattle.query_http.specs.Serving.{IsSilent, IsReply, Serves, refused_at, conflict_body}
use Rattle.query_http.specs.Serving.{IsRefusedAfterHeld}
use Rattle.query_http.specs.declared.engine.Served.{Served}
use Rattle.query_http.specs.declared.engine.Served.TheVariants as served

pub conflict_spelled : (cause : Cause) (error : CommitError) (status : Status) (text : List ℕ)
    → IsReplyOfRefusal (Refused cause) status text
    → cause.code.now ≡ commit_code error → cause.at ≡ refused_at error
    → text ≡ reply_text Conflict (conflict_body error)
conflict_spelled cause error status text p code at =
    let same : told_cause cause ≡ (commit_code error, refused_at error) = rw (code, at) refl in
    p.spelled
    ∙ ap (λ (x : List ℕ × Option ℕ). reply_text Conflict (compact_text (cause_data (codes "H9") x)))
    same

pub answer_replied : {E : Type 0} (opening : SnapshotParts) (query : QueryView)
    (before after : Known) (answer : AuditedAnswer) (result : Result Reply E)
    → IsHeadline opening query before after answer → IfOk result (λ r. r.status ≡ Done)
    → IfOk result (λ r.
    text_of r ≡ reply_text Done (body_text answer.parts.items (rows_of answer)))
    → IfOk result (λ r. IsAnswerReply opening query before after r.status (text_of r)
    ⊎ IsReplyOfRefusal Unavailable r.status (text_of r))
answer_replied opening query before after answer (Ok r) h number spelled =
    inl (record { answer = answer; headline = h; number = number; spelled = spelled })
answer_replied opening query before after answer (Err e) h number spelled = tt

-- an answer from a snapshot behind another one that the pass had taken
later_headline : (opening : SnapshotParts) (query : QueryView) (before between after : Known)
    (answer : AuditedAnswer) → IsPrefix before.seen between.seen → between.told ≡ before.told
    → IsHeadline opening query between after answer → IsHeadline opening query before after answer
later_headline opening query before between after answer seen told h = record {
  seen = prefix_trans before.seen between.seen after.seen seen h.seen;
  told = subst (λ (l : List Entry). IsPrefix l after.seen) told h.told;
  snapshot = h.snapshot;
  replay = h.replay;
  rows = h.rows;
  whole = h.whole;
  parts = h.parts;
}

later_reply : (opening : SnapshotParts) (bounded : Bool) (query : QueryView)
    (before between after : Known) (status : Status) (text : List ℕ)
    → IsPrefix before.seen between.seen → between.told ≡ before.told
    → IsAnswerReply opening query between after status text ⊎ IsReplyOfRefusal Unavailable status text
    → IsQueryReply opening bounded query before after status text
later_reply opening bounded query before between after status text seen told (inl h) =
    inl (record {
      answer = h.answer;
      headline =
          later_headline opening query before between after h.answer seen told h.headline;
      number = h.number;
      spelled = h.spelled;
    })
later_reply opening bounded query before between after status text seen told (inr h) = inr (inl h)

-- without a bound there is room for each reply
pub unbounded : (opening : SnapshotParts) (query : QueryView) (before after : Known)
    (status : Status) (text : List ℕ)
    → IsQueryReply opening false query before after status text
    → IsAnswerReply opening query before after status text ⊎ IsReplyOfRefusal Unavailable status text
unbounded opening query before after status text (inl h) = inl h
unbounded opening query before after status text (inr (inl h)) = inr h
unbounded opening query before after status text (inr (inr h)) = absurd (cc h.bound)

-- the reply of a store to a query, whose pass had taken another snapshot before
pub later_replied : {E : Type 0} (opening : SnapshotParts) (bounded : Bool) (query : QueryView)
    (before between after : Known) (result : Result Reply E)
    → IsPrefix before.seen between.seen → between.told ≡ before.told
    → IfOk result (λ r. IsAnswerReply opening query between after r.status (text_of r)
    ⊎ IsReplyOfRefusal Unavailable r.status (text_of r))
    → IfOk result (λ r. IsQueryReply opening bounded query before after r.status (text_of r))
later_replied opening bounded query before between after (Ok r) seen told h =
    later_reply opening bounded query before between after r.status (text_of r) seen told h
later_replied opening bounded query before between after (Err e) seen told h = tt

-- of a refusal that is the store's own no more is said
pub store_refused : (opening : SnapshotParts) (held : List Entry → Type 0) (seat : SeatView)
    (event : Event) (error : CommitError) → IsOfStore error
    → IsRefusedAfterHeld opening held seat error event
store_refused opening held seat event error own other = absurd (other own)

-- any other comes with the receipt of a list that is held
pub receipt_refused : (opening : SnapshotParts) (held : List Entry → Type 0) (seat : SeatView)
    (event : Event) (error : CommitError) (met : Option (List Entry))
    → IsRefusedBy opening seat error event met → IfSome met held
    → IsRefusedAfterHeld opening held seat error event
receipt_refused opening held seat event error None by known other = absurd (by other)
receipt_refused opening held seat event error (Some list) by known other = (list, by other, known)

-- the reply to an event that was refused, by whether it was not kept
refused_or_unkept : (opening : SnapshotParts) (idle : Bool) (held : List Entry → Type 0)
    (event : Event) (before after : Worker) (error : CommitError) (status : Status) (text : List ℕ)
    → after ≡ before → IsRefusedAfterHeld opening held before.seat error event
    → (error ≡ Journal → idle ≡ false) → error ≢ Memory
    → (error ≡ Journal → IsReplyOfRefusal NotKept status text)
    → (error ≢ Journal → status ≡ Conflict)
    → (error ≢ Journal → text ≡ reply_text Conflict (conflict_body error))
    → (error ≡ Journal) ⊎ (error ≢ Journal)
    → IsEventReply opening idle held event before after status text
refused_or_unkept opening idle held event before after error status text same found keeps
    no_memory unkept number spelled (inl is) =
    inr (inr (record { keeps = keeps is; refused = unkept is; same = same }))
refused_or_unkept opening idle held event before after error status text same found keeps
    no_memory unkept number spelled (inr other) =
    inr (inl (record {
      error = error;
      found = found;
      no_memory = no_memory;
      no_journal = other;
      same = same;
      number = number other;
      spelled = spelled other;
    }))

-- whether an event was not kept
is_journal : (error : CommitError) → (error ≡ Journal) ⊎ (error ≢ Journal)
is_journal (OutOfBounds at) = inr (λ e. cc)
is_journal (OutOfOrder at) = inr (λ e. cc)
is_journal (Duplicate at) = inr (λ e. cc)
is_journal Limit = inr (λ e. cc)
is_journal CutTooLow = inr (λ e. cc)
is_journal TooManyParts = inr (λ e. cc)
is_journal Seat = inr (λ e. cc)
is_journal Journal = inl refl
is_journal Memory = inr (λ e. cc)

pub event_refused : {E : Type 0} (opening : SnapshotParts) (idle : Bool)
    (held : List Entry → Type 0) (event : Event) (before after : Worker) (error : CommitError)
    (result : Result Reply E)
    → after ≡ before → IsRefusedAfterHeld opening held before.seat error event
    → (error ≡ Journal → idle ≡ false) → IfOk result (λ _. error ≢ Memory)
    → (error ≡ Journal → IfOk result (λ r. IsReplyOfRefusal NotKept r.status (text_of r)))
    → (error ≢ Journal → IfOk result (λ r. r.status ≡ Conflict))
    → (error ≢ Journal → IfOk result (λ r. text_of r ≡ reply_text Conflict (conflict_body error)))
    → IfOk result (λ r. IsEventReply opening idle held event before after r.status (text_of r))
event_refused opening idle held event before after error (Ok r) same found keeps no_memory unkept
    number spelled =
    refused_or_unkept opening idle held event before after error r.status (text_of r) same found
    keeps no_memory unkept number spelled (is_journal error)
event_refused opening idle held event before after error (Err e) same found keeps no_memory unkept
    number spelled = tt

-- a connection that got no reply
pub silent_served : (Asks : List ℕ → Meaning → Type 0) (opening : SnapshotParts) (idle bounded : Bool)
    (held : List Entry → Type 0)
    (input : Option (List ℕ)) (before after : Worker)
    (old new : Option (List ℕ)) (how : Served) → IsSilent how
    → (how ≡ served.Closed → IfSome input (λ bytes. bytes ≡ []))
    → (how ≡ served.Closed → after ≡ before) → (how ≡ served.ReadFault → after ≡ before)
    → IsIdle before after → Serves Asks opening idle bounded held input before after old new how
silent_served Asks opening idle bounded held input before after old new (served.Replied status) p closed
    unasked unread still = absurd p
silent_served Asks opening idle bounded held input before after old new served.WriteFault p closed unasked
    unread still = absurd p
silent_served Asks opening idle bounded held input before after old new served.Closed p closed unasked
    unread still =
    (closed refl, unasked refl)
silent_served Asks opening idle bounded held input before after old new served.ReadFault p closed unasked
    unread still = unread refl
silent_served Asks opening idle bounded held input before after old new served.NoMemory p closed unasked
    unread still = still

same_idle : (before after : Worker) → after ≡ before → IsIdle before after
same_idle before after e = subst (λ (w : Worker). IsIdle before w) (sym e) (record {
  told = refl;
  seat = refl;
  seen = prefix_self before.known.seen;
})

reply_idle : (rules : Rules) (opening : SnapshotParts) (idle bounded : Bool) (held : List Entry → Type 0)
    (bytes : List ℕ) (before after : Worker) (status : Status) (text : List ℕ)
    → IsBarred rules bytes
    → IsReply (MeansUnder rules) opening idle bounded held (Some bytes) before after status text
    → IsIdle before after
reply_idle rules opening idle bounded held bytes before after status text b (inl h) =
    same_idle before after h.same
reply_idle rules opening idle bounded held bytes before after status text b (inr h) =
    absurd (asks_nothing rules bytes h.request b h.means)

barred_bytes : (rules : Rules) (opening : SnapshotParts) (idle bounded : Bool)
    (held : List Entry → Type 0) (bytes : List ℕ) (before after : Worker)
    (old new : Option (List ℕ)) (how : Served) → IsBarred rules bytes
    → Serves (MeansUnder rules) opening idle bounded held (Some bytes) before after old new how
    → IsIdle before after
barred_bytes rules opening idle bounded held bytes before after old new (served.Replied status) b h =
    reply_idle rules opening idle bounded held bytes before after status h.text b h.reply
barred_bytes rules opening idle bounded held bytes before after old new served.WriteFault b h =
    reply_idle rules opening idle bounded held bytes before after h.status h.text b h.reply
barred_bytes rules opening idle bounded held bytes before after old new served.Closed b h =
    same_idle before after h.1
barred_bytes rules opening idle bounded held bytes before after old new served.ReadFault b h =
    same_idle before after h
barred_bytes rules opening idle bounded held bytes before after old new served.NoMemory b h = h

-- what is not admitted changes nothing
pub barred_idle : (rules : Rules) (opening : SnapshotParts) (idle bounded : Bool)
    (held : List Entry → Type 0) (input : Option (List ℕ))
    (before after : Worker) (old new : Option (List ℕ)) (how : Served)
    → Serves (MeansUnder rules) opening idle bounded held input before after old new how
    → IfSome input (λ bytes. IsBarred rules bytes → IsIdle before after)
barred_idle rules opening idle bounded held None before after old new how h = tt
barred_idle rules opening idle bounded held (Some bytes) before after old new how h =
    λ b. barred_bytes rules opening idle bounded held bytes before after old new how b h

-- The same replies, where what bytes mean under no rules is what they mean.
reply_unruled : (opening : SnapshotParts) (idle bounded : Bool) (held : List Entry → Type 0)
    (input : Option (List ℕ)) (before after : Worker) (status : Status) (text : List ℕ)
    → IsReply (MeansUnder no_rules) opening idle bounded held input before after status text
    → IsReply Means opening idle bounded held input before after status text
reply_unruled opening idle bounded held None before after status text (inl h) = inl (record {
  refusal = h.refusal;
  of_bytes = h.of_bytes;
  means = tt;
  refused = h.refused;
  same = h.same;
})
reply_unruled opening idle bounded held (Some bytes) before after status text (inl h) = inl (record {
  refusal = h.refusal;
  of_bytes = h.of_bytes;
  means = means_unruled bytes (Err h.refusal) h.means;
  refused = h.refused;
  same = h.same;
})
reply_unruled opening idle bounded held None before after status text (inr h) = inr (record {
  request = h.request;
  means = tt;
  fits = h.fits;
  done = h.done;
})
reply_unruled opening idle bounded held (Some bytes) before after status text (inr h) = inr (record {
  request = h.request;
  means = means_unruled bytes (Ok h.request) h.means;
  fits = h.fits;
  done = h.done;
})

served_plain : (opening : SnapshotParts) (idle bounded : Bool) (held : List Entry → Type 0)
    (input : Option (List ℕ)) (before after : Worker)
    (old new : Option (List ℕ)) (how : Served)
    → Serves (MeansUnder no_rules) opening idle bounded held input before after old new how
    → Serves Means opening idle bounded held input before after old new how
served_plain opening idle bounded held input before after old new (served.Replied status) h = record {
  text = h.text;
  reply = reply_unruled opening idle bounded held input before after status h.text h.reply;
  written = h.written;
}
served_plain opening idle bounded held input before after old new served.WriteFault h = record {
  status = h.status;
  text = h.text;
  reply = reply_unruled opening idle bounded held input before after h.status h.text h.reply;
  written = h.written;
}
served_plain opening idle bounded held input before after old new served.Closed h = h
served_plain opening idle bounded held input before after old new served.ReadFault h = h
served_plain opening idle bounded held input before after old new served.NoMemory h = h

pub served_unruled : (rules : Rules) (opening : SnapshotParts) (idle bounded : Bool)
    (held : List Entry → Type 0) (input : Option (List ℕ))
    (before after : Worker) (old new : Option (List ℕ)) (how : Served) → rules ≡ no_rules
    → Serves (MeansUnder rules) opening idle bounded held input before after old new how
    → Serves Means opening idle bounded held input before after old new how
served_unruled rules opening idle bounded held input before after old new how is h =
    served_plain opening idle bounded held input before after old new how
    (subst (λ (r : Rules).
    Serves (MeansUnder r) opening idle bounded held input before after old new how) is h)
