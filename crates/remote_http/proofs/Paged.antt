-- The replies with a page.
use Rattle.std.proofs.Common.{◌≡◌, ℕ, List, Result, Ok, Err, inl, inr, ap, ◌∙◌}
use Rattle.std.specs.Prelude.{IfOk}
use Rattle.answer_pages.specs.Showing.{IsAnswerPage, IsNoPage, form_text}
use Rattle.answer_pages.specs.declared.error.PageError.TheVariants.{Unread}
use Rattle.answers.specs.declared.audited.AuditedAnswer.{AuditedAnswer}
use Rattle.page_requests.specs.declared.question.Question.{Question}
use Rattle.remote_requests.specs.declared.refusal.Refusal.TheVariants.{Unavailable}
use Rattle.remote_requests.specs.declared.status.Status.TheVariants.{Done}
use Rattle.remote_http.specs.declared.reply.Reply.{Reply}
use Rattle.remote_http.specs.Paging.{IsAnswerReply, IsHomeReply}
use Rattle.remote_http.specs.Reply.{text_of}
use Rattle.remote_http.specs.Text.{html_text}
use Rattle.remote_http.specs.Writing.{IsReplyOfRefusal}

-- a page that was written
pub page_shown : {E : Type 0} (question : Question) (audited : AuditedAnswer) (bytes : List ℕ)
    (result : Result Reply E) → IsAnswerPage question audited bytes
    → IfOk result (λ r. r.status ≡ Done) → IfOk result (λ r. text_of r ≡ html_text bytes)
    → IfOk result (λ r. IsAnswerReply question audited r.status (text_of r))
page_shown question audited bytes (Ok r) shows number spelled =
    inl (record { bytes = bytes; shows = shows; number = number; spelled = spelled })
page_shown question audited bytes (Err e) shows number spelled = tt

-- a text that was not read
pub page_unread : {E : Type 0} (question : Question) (audited : AuditedAnswer)
    (result : Result Reply E) → IsNoPage audited Unread
    → IfOk result (λ r. IsReplyOfRefusal Unavailable r.status (text_of r))
    → IfOk result (λ r. IsAnswerReply question audited r.status (text_of r))
page_unread question audited (Ok r) unread refused =
    inr (record { unread = unread; refused = refused })
page_unread question audited (Err e) unread refused = tt

-- the form
pub form_replied : {E : Type 0} (bytes : List ℕ) (result : Result Reply E) → bytes ≡ form_text
    → IfOk result (λ r. r.status ≡ Done) → IfOk result (λ r. text_of r ≡ html_text bytes)
    → IfOk result (λ r. IsHomeReply r.status (text_of r))
form_replied bytes (Ok r) is number spelled =
    record { number = number; spelled = spelled ∙ ap html_text is }
form_replied bytes (Err e) is number spelled = tt
