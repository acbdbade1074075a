-- The listing of a snapshot that a pass lends.
use Rattle.std.proofs.Common.{◌≡◌, ℕ, List, ap, ◌∙◌, inl, Result, Ok, Err, IfOk}
use mathlib.Core.List.{IsPrefix}
use Rattle.head.specs.Heads.{SnapshotParts}
use Rattle.snapshots.specs.Replays.{IsAfter}
use Rattle.snapshots.specs.Views.{Known}
use Rattle.remote_requests.specs.declared.asked.Listing.{Listing}
use Rattle.remote_requests.specs.declared.status.Status.TheVariants.{Done}
use Rattle.remote_http.specs.declared.reply.Reply.{Reply}
use Rattle.remote_http.specs.Listing.{body_of, IsListReply}
use Rattle.remote_http.specs.Reply.{text_of}
use Rattle.remote_http.specs.Text.{json_text}

-- the reply that tells it
pub listed_replied : {E : Type 0} (opening : SnapshotParts) (listing : Listing) (before after : Known)
    (snapshot : SnapshotParts) → IsPrefix before.seen after.seen → IsPrefix before.told after.seen
    → IsAfter opening after.seen snapshot → (body : List ℕ) (result : Result Reply E)
    → body ≡ body_of snapshot listing → IfOk result (λ r. r.status ≡ Done)
    → IfOk result (λ r. text_of r ≡ json_text Done body)
    → IfOk result (λ r. IsListReply opening listing before after r.status (text_of r))
listed_replied opening listing before after snapshot seen told replay body (Ok r) is number spelled =
    inl (record {
      seen = seen;
      told = told;
      snapshot = snapshot;
      replay = replay;
      number = number;
      spelled = spelled ∙ ap (json_text Done) is;
    })
listed_replied opening listing before after snapshot seen told replay body (Err e) is number spelled = tt
