-- What a query string asks of `/page`.
use Rattle.std.specs.Prelude.{◌≡◌, ⊤, ℕ, List, [], ◌∷◌, Option, None, Some, Result, Ok, Err}
use Rattle.std.specs.Prelude.{string_bytes}
use Rattle.labels.specs.Labels.{Labels}
use Rattle.matchers.specs.Selectors.{IsAccepted, IsTextRefusal}
use Rattle.matchers.specs.Views.{MatcherView}
use Rattle.requests.specs.QueryStrings.{query_pairs}
use Rattle.requests.specs.Selecting.{IsQueryAskedBy}
use Rattle.asked_series.specs.Series.{IsSeries, IsNoSeries}
use Rattle.page_requests.specs.declared.question.Question.{Question}
use Rattle.page_requests.specs.declared.question.QuestionError.{QuestionError}
use Rattle.page_requests.specs.declared.question.QuestionError.TheVariants.{Memory, Refused}
use Rattle.page_requests.specs.declared.refusal.Refusal.{Refusal}
use Rattle.page_requests.specs.declared.refusal.Refusal.TheVariants.{BadQuery, BadSelector}
use Rattle.page_requests.specs.declared.refusal.Refusal.TheVariants.{NoSeries}
use Rattle.page_requests.specs.Fields.{FormSeen, form_in}

-- what is asked, or why it is refused
abbrev pub Meaning : Type 0
Meaning = Result Question Refusal

-- the answer is a meaning of the query string, unless memory was refused
abbrev pub Told : (Meaning → Type 0) → Result Question QuestionError → Type 0
Told Means (Ok question) = Means (Ok question)
Told Means (Err Memory) = ⊤
Told Means (Err (Refused refusal)) = Means (Err refusal)

-- the series that a text asks about: none, if it is empty
abbrev pub IsAbout : List ℕ → Option Labels → Type 0
IsAbout [] None = ⊤
IsAbout [] (Some labels) = ⊥
IsAbout (byte ∷ bytes) None = ⊥
IsAbout (byte ∷ bytes) (Some labels) = IsSeries (byte ∷ bytes) labels

-- the text asks about what is no series
abbrev pub AsksNoSeries : List ℕ → Type 0
AsksNoSeries [] = ⊥
AsksNoSeries (byte ∷ bytes) = IsNoSeries (byte ∷ bytes)

-- why a selector's text gives no matchers
abbrev pub IsSelectorError : List ℕ → QuestionError → Type 0
IsSelectorError text Memory = ⊤
IsSelectorError text (Refused BadQuery) = ⊥
IsSelectorError text (Refused (BadSelector error)) = IsTextRefusal text error
IsSelectorError text (Refused NoSeries) = ⊥

-- why a text gives no series
abbrev pub IsAboutError : List ℕ → QuestionError → Type 0
IsAboutError text Memory = ⊤
IsAboutError text (Refused BadQuery) = ⊥
IsAboutError text (Refused (BadSelector error)) = ⊥
IsAboutError text (Refused NoSeries) = AsksNoSeries text

-- The selector as it is written, the query of its matchers and the range, and the series that is
-- asked about.
pub record IsQuestionOf (form : FormSeen) (question : Question) : Type 0 where
  pub selector : string_bytes question.selector ≡ form.0.0
  pub query : IsQueryAskedBy form.0 question.query
  pub about : IsAbout form.1 question.about

-- the selector is accepted, and what is asked about is no series
pub record HasNoSeries (form : FormSeen) : Type 0 where
  pub matchers : List MatcherView
  pub accepted : IsAccepted form.0.0 matchers
  pub none : AsksNoSeries form.1

-- A query string of the form asks a question; or its selector is refused, or, if that is accepted,
-- the series that it asks about. Another is a bad one.
abbrev pub QuestionMeans : List ℕ → Meaning → Type 0
QuestionMeans query (Ok question) =
    (form : FormSeen) × (form_in (query_pairs query) ≡ Some form) × IsQuestionOf form question
QuestionMeans query (Err BadQuery) = form_in (query_pairs query) ≡ None
QuestionMeans query (Err (BadSelector error)) =
    (form : FormSeen) × (form_in (query_pairs query) ≡ Some form) × IsTextRefusal form.0.0 error
QuestionMeans query (Err NoSeries) =
    (form : FormSeen) × (form_in (query_pairs query) ≡ Some form) × HasNoSeries form
