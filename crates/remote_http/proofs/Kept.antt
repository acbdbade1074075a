-- Replies to writes, put together from what is known of their parts.
use Rattle.std.proofs.Common.{◌≡◌, ◌≢◌, Bool, false, List, Result, Ok, Err, IfOk, ap, ◌∙◌, inl, inr}
use Rattle.std.specs.Prelude.{◌⊎◌, OnErr}
use Rattle.head.specs.BatchRows.{batch_of_rows}
use Rattle.head.specs.Heads.{SnapshotParts}
use Rattle.head.specs.Worlds.{Batch}
use Rattle.head.specs.declared.left.Left.{Left}
use Rattle.head.specs.declared.error.CommitError.{CommitError}
use Rattle.head.specs.declared.error.CommitError.TheVariants.{Journal, Memory}
use Rattle.snapshots.specs.Replays.{IsOfStore}
use Rattle.remote_requests.specs.declared.asked.Received.{Received}
use Rattle.remote_requests.specs.declared.refusal.Refusal.TheVariants.{NotKept}
use Rattle.remote_http.specs.declared.reply.Reply.{Reply}
use Rattle.remote_http.specs.Cutting.{IsCutInto}
use Rattle.remote_http.specs.Publishing.{IsPublished}
use Rattle.remote_http.specs.Reply.{text_of}
use Rattle.remote_http.specs.Told.{kept_status, kept_text}
use Rattle.remote_http.specs.Workers.{Worker}
use Rattle.remote_http.specs.Writing.{IsKeptReply, IsReplyOfRefusal, IsUnkeptReply, PublishesFront}

pub on_err : {T E P : Type 0} (result : Result T E) → P → OnErr result P
on_err (Ok r) p = tt
on_err (Err e) p = p

module _ (opening : SnapshotParts) (idle : Bool) (received : Received) (before after : Worker) where
  -- all parts were sifted
  pub kept_replied : {E : Type 0} (result : Result Reply E) (parts : List Batch) (left : Left)
      → IsCutInto (batch_of_rows received.rows.items) parts → IsPublished opening parts before after left
      → IfOk result (λ r. r.status ≡ kept_status received left)
      → IfOk result (λ r. text_of r ≡ kept_text received left)
      → IfOk result (λ r. IsKeptReply opening received before after r.status (text_of r)
      ⊎ IsUnkeptReply opening idle received before after r.status (text_of r))
  kept_replied (Ok r) parts left cut p number spelled = inl (record {
    parts = parts;
    cut = cut;
    lefts = p.lefts;
    published = p.each;
    number = number ∙ ap (kept_status received) p.all;
    spelled = spelled ∙ ap (kept_text received) p.all;
  })
  kept_replied (Err e) parts left cut p number spelled = tt

  -- a part was not
  pub unkept_replied : {E : Type 0} (result : Result Reply E) (error : CommitError)
      → PublishesFront opening (batch_of_rows received.rows.items) before after → IsOfStore error
      → (error ≡ Journal → idle ≡ false) → IfOk result (λ _. error ≢ Memory)
      → IfOk result (λ r. IsReplyOfRefusal NotKept r.status (text_of r))
      → IfOk result (λ r. IsKeptReply opening received before after r.status (text_of r)
      ⊎ IsUnkeptReply opening idle received before after r.status (text_of r))
  unkept_replied (Ok r) error front own keeps no_memory told = inr (record {
    front = front;
    error = error;
    of_store = own;
    no_memory = no_memory;
    keeps = keeps;
    refused = told;
  })
  unkept_replied (Err e) error front own keeps no_memory told = tt
