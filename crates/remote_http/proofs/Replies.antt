-- Replies, put together from what is known of their parts.
use Rattle.std.proofs.Common.{◌≡◌, ℕ, List, Result, Ok, Err, IfOk, ap, ◌∙◌}
use Rattle.remote_requests.specs.declared.refusal.Refusal.{Refusal}
use Rattle.remote_requests.specs.declared.status.Status.{Status}
use Rattle.remote_requests.specs.Refusals.{status_of}
use Rattle.remote_requests.specs.Replies.{refusal_line}
use Rattle.remote_http.specs.declared.reply.Reply.{Reply}
use Rattle.remote_http.specs.Reply.{text_of}
use Rattle.remote_http.specs.Text.{json_text}
use Rattle.remote_http.specs.Writing.{IsReplyOfRefusal}

pub refused : {E : Type 0} (result : Result Reply E) (refusal : Refusal) (status : Status) (line : List ℕ)
    → status ≡ status_of refusal → line ≡ refusal_line refusal → IfOk result (λ r. r.status ≡ status)
    → IfOk result (λ r. text_of r ≡ json_text status line)
    → IfOk result (λ r. IsReplyOfRefusal refusal r.status (text_of r))
refused (Ok r) refusal status line is told number spelled = record {
  number = number ∙ is;
  spelled = spelled ∙ ap (λ (s : Status). json_text s line) is ∙ ap (json_text (status_of refusal)) told;
}
refused (Err e) refusal status line is told number spelled = tt
