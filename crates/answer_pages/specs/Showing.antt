-- What the page of an answer shows, and why there is none.
use Rattle.std.specs.Prelude.{◌≡◌, ⊤, ℕ, List, [], None, Some, length, map, string_bytes}
use Rattle.std.specs.List.{flat_map}
use Rattle.std.specs.Option.{option_copied}
use Rattle.answers.specs.Body.{body_text}
use Rattle.answers.specs.MergedRows.{rows_of}
use Rattle.answers.specs.declared.audited.AuditedAnswer.{AuditedAnswer}
use Rattle.auditor.specs.Judgements.{answers_of}
use Rattle.page.specs.Pages.{IsPageOf}
use Rattle.page.specs.declared.shown.Shown.{Shown}
use Rattle.page.specs.declared.write.Page.{Page}
use Rattle.page_claims.specs.Judging.{place_of}
use Rattle.page_claims.specs.declared.told.Told.{Told}
use Rattle.page_text.specs.declared.value.Values.TheVariants.{Doubles}
use Rattle.page_requests.specs.declared.question.Question.{Question}
use Rattle.reply_reader.specs.Replies.{text_said, told_of}
use Rattle.reply_reader.specs.declared.reply.Reply.{Reply}
use Rattle.sha2.specs.Sha256.{sha256}
use Rattle.answer_pages.specs.declared.error.PageError.{PageError}
use Rattle.answer_pages.specs.declared.error.PageError.TheVariants.{Memory, Unread}
use Rattle.answer_pages.specs.declared.form.TheConstants.{FORM}

-- the text of an answer: what is told of each part, and the rows of all
abbrev pub text_of : AuditedAnswer → List ℕ
text_of answer = body_text answer.parts.items (rows_of answer)

-- what was done with each part of the reply that the text says, its answers and its rows
pub record IsToldIn (text : List ℕ) (told : Told) : Type 0 where
  pub reply : Reply
  pub says : text_said text ≡ Some (told_of reply)
  pub places : told.places.items ≡ map place_of reply.parts.items
  pub answers : told.answers.items ≡ flat_map answers_of reply.parts.items
  pub rows : told.rows ≡ reply.rows

-- what is shown is the question and what the text says, which nobody judged and whose values are
-- doubles, with the length and the SHA-256 of the text
pub record Shows (question : Question) (text : List ℕ) (shown : Shown) : Type 0 where
  pub selector : shown.selector.now ≡ string_bytes question.selector
  pub query : shown.query.now ≡ question.query
  pub told : IsToldIn text shown.told.now
  pub tables : shown.tables.now ≡ []
  pub lines : shown.lines.now ≡ []
  pub state : shown.state ≡ None
  pub values : shown.values ≡ Doubles
  pub about : option_copied shown.about ≡ question.about
  pub length_is : shown.length ≡ length text
  pub digest_is : shown.digest ≡ sha256 text

-- the page is that of what is shown
pub record IsPageOfText (question : Question) (text : List ℕ) (page : Page) : Type 0 where
  pub shown : Shown
  pub shows : Shows question text shown
  pub page_is : IsPageOf shown page

-- the bytes are those of the page of an answer's text
pub record IsAnswerPage (question : Question) (answer : AuditedAnswer)
    (bytes : List ℕ) : Type 0 where
  pub page : Page
  pub of_text : IsPageOfText question (text_of answer) page
  pub bytes_are : bytes ≡ page.bytes.items

-- a text is not read: it says no reply, or memory failed
abbrev pub IsUnread : List ℕ → PageError → Type 0
IsUnread text Memory = ⊤
IsUnread text Unread = text_said text ≡ None

-- why there is no page: memory failed, or the text of the answer is not read
abbrev pub IsNoPage : AuditedAnswer → PageError → Type 0
IsNoPage answer e = IsUnread (text_of answer) e

-- the form
unfoldable pub form_text : List ℕ
form_text = FORM.now
