-- What a request for a page comes to: the page of the answer of one snapshot, and the reply that
-- carries it.
use Rattle.std.specs.Prelude.{◌≡◌, ◌⊎◌, ℕ, List}
use Rattle.answer_pages.specs.Showing.{IsAnswerPage, IsNoPage, form_text}
use Rattle.answer_pages.specs.declared.error.PageError.TheVariants.{Unread}
use Rattle.answers.specs.Headline.{IsHeadline}
use Rattle.answers.specs.declared.audited.AuditedAnswer.{AuditedAnswer}
use Rattle.head.specs.Heads.{SnapshotParts}
use Rattle.page_requests.specs.declared.question.Question.{Question}
use Rattle.remote_requests.specs.declared.refusal.Refusal.TheVariants.{Unavailable}
use Rattle.remote_requests.specs.declared.status.Status.{Status}
use Rattle.remote_requests.specs.declared.status.Status.TheVariants.{Done}
use Rattle.snapshots.specs.Views.{Known}
use Rattle.remote_http.specs.Text.{html_text}
use Rattle.remote_http.specs.Writing.{IsReplyOfRefusal}

-- the reply is the form
pub record IsHomeReply (status : Status) (text : List ℕ) : Type 0 where
  pub number : status ≡ Done
  pub spelled : text ≡ html_text form_text

-- the reply is the page of an answer to the question
pub record IsShownReply (question : Question) (audited : AuditedAnswer)
    (status : Status) (text : List ℕ) : Type 0 where
  pub bytes : List ℕ
  pub shows : IsAnswerPage question audited bytes
  pub number : status ≡ Done
  pub spelled : text ≡ html_text bytes

-- the text of the answer is not read back
pub record IsUnreadReply (audited : AuditedAnswer) (status : Status)
    (text : List ℕ) : Type 0 where
  pub unread : IsNoPage audited Unread
  pub refused : IsReplyOfRefusal Unavailable status text

-- what is replied where this is the answer to the question
abbrev pub IsAnswerReply : Question → AuditedAnswer → Status → List ℕ → Type 0
IsAnswerReply question audited status text =
    IsShownReply question audited status text ⊎ IsUnreadReply audited status text

-- The reply is that of the audited answer to the question, which has this headline.
pub record IsPageOfStore (opening : SnapshotParts) (question : Question) (before after : Known)
    (status : Status) (text : List ℕ) : Type 0 where
  pub audited : AuditedAnswer
  pub headline : IsHeadline opening question.query before after audited
  pub reply : IsAnswerReply question audited status text

-- the reply to a request for a page: that of the answer of the store, or that the store lends no
-- snapshot
abbrev pub IsPageReply : SnapshotParts → Question → Known → Known → Status → List ℕ → Type 0
IsPageReply opening question before after status text =
    IsPageOfStore opening question before after status text
    ⊎ IsReplyOfRefusal Unavailable status text
