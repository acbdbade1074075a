-- What a worker knows after bytes that were refused, or not admitted.
use Rattle.std.proofs.Common.{◌≡◌, ℕ, ℤ, Bool, List, refl, sym, subst, inl, inr, Result, Ok, Err}
use Rattle.std.specs.Prelude.{IfOk, OnErr}
use Rattle.guard.specs.declared.rules.Rules.{Rules}
use Rattle.head.specs.Heads.{SnapshotParts}
use Rattle.snapshots.proofs.Prefixes.{prefix_self}
use Rattle.remote_requests.specs.declared.came.Came.{Came}
use Rattle.remote_requests.specs.declared.status.Status.{Status}
use Rattle.remote_http.specs.declared.reply.Reply.{Reply}
use Rattle.remote_http.specs.Reply.{text_of}
use Rattle.std.proofs.lemmas.Result.{on_err_weaker}
use Rattle.remote_requests.specs.declared.asked.Asked.{Asked}
use Rattle.remote_requests.specs.declared.refusal.Refusal.{Refusal}
use Rattle.remote_requests.specs.Meaning.{HasEnded, MeansUnder}
use Rattle.remote_http.specs.Serving.{HasFront, IsAskedReply, IsBarred, IsReply, IsSilent}
use Rattle.remote_http.specs.Writing.{IsReplyOfRefusal}
use Rattle.remote_http.specs.Workers.{Worker, IsIdle}
use Rattle.remote_http.proofs.Means.{asks_nothing}

pub same_idle : (before after : Worker) → after ≡ before → IsIdle before after
same_idle before after e = subst (λ (w : Worker). IsIdle before w) (sym e) (record {
  told = refl;
  seat = refl;
  seen = prefix_self before.known.seen;
})

module _ (rules : Rules) (version : List ℕ) (now : ℤ) (came : Came) (opening : SnapshotParts) (idle : Bool)
    (before after : Worker) where
  reply_idle : (status : Status) (text : List ℕ) → IsBarred rules came.bytes.now
      → IsReply rules version now came opening idle before after status text → IsIdle before after
  reply_idle status text b (inl t) = same_idle before after t.same
  reply_idle status text b (inr d) = absurd (asks_nothing rules now came.bytes.now d.asked b d.means)

  silent_idle : IsBarred rules came.bytes.now → IsSilent rules now came opening before after → IsIdle before after
  silent_idle b (inl same) = same_idle before after same
  silent_idle b (inr s) = absurd (asks_nothing rules now came.bytes.now s.asked b s.means)

  -- what is not admitted changes nothing
  pub barred_idle : {E : Type 0} (result : Result Reply E)
      → IfOk result (λ r. IsReply rules version now came opening idle before after r.status (text_of r))
      → OnErr result (IsSilent rules now came opening before after) → IsBarred rules came.bytes.now
      → IsIdle before after
  barred_idle (Ok r) reply silent b = reply_idle r.status (text_of r) b reply
  barred_idle (Err e) reply silent b = silent_idle b silent

  -- what is asked is done
  pub asked_replied : {E : Type 0} (result : Result Reply E) (asked : Asked) → HasEnded came.end
      → MeansUnder rules now came.bytes.now (Ok asked)
      → IfOk result (λ r. IsAskedReply version now opening idle asked before after r.status (text_of r))
      → IfOk result (λ r. IsReply rules version now came opening idle before after r.status (text_of r))
  asked_replied (Ok r) asked ended means done =
      inr (record { asked = asked; ended = ended; means = means; done = done })
  asked_replied (Err e) asked ended means done = tt

  -- or breaks off
  pub asked_silent : {E : Type 0} (result : Result Reply E) (asked : Asked) → HasEnded came.end
      → MeansUnder rules now came.bytes.now (Ok asked) → OnErr result (HasFront opening asked before after)
      → OnErr result (IsSilent rules now came opening before after)
  asked_silent result asked ended means front =
      on_err_weaker result (λ f. inr (record { asked = asked; ended = ended; means = means; front = f })) front

  -- what is refused changes nothing
  pub refused_replied : {E : Type 0} (result : Result Reply E) (refusal : Refusal) → HasEnded came.end
      → MeansUnder rules now came.bytes.now (Err refusal) → after ≡ before
      → IfOk result (λ r. IsReplyOfRefusal refusal r.status (text_of r))
      → IfOk result (λ r. IsReply rules version now came opening idle before after r.status (text_of r))
  refused_replied (Ok r) refusal ended means same told =
      inl (record { refusal = refusal; ended = ended; means = means; refused = told; same = same })
  refused_replied (Err e) refusal ended means same told = tt
