-- What the parts of a query string give the whole.
use Rattle.std.proofs.Common.{◌≡◌, ℕ, List, Some, Err}
use Rattle.matchers.specs.Selectors.{IsAccepted}
use Rattle.matchers.specs.Views.{MatcherView}
use Rattle.requests.specs.QueryStrings.{query_pairs}
use Rattle.page_requests.specs.declared.question.QuestionError.{QuestionError}
use Rattle.page_requests.specs.declared.question.QuestionError.TheVariants.{Memory, Refused}
use Rattle.page_requests.specs.declared.refusal.Refusal.TheVariants.{BadQuery, BadSelector}
use Rattle.page_requests.specs.declared.refusal.Refusal.TheVariants.{NoSeries}
use Rattle.page_requests.specs.Fields.{FormSeen, form_in}
use Rattle.page_requests.specs.Meaning.{IsAboutError, IsSelectorError, QuestionMeans, Told}

-- a form whose selector is refused
pub refused_selector : (query : List ℕ) (form : FormSeen) → form_in (query_pairs query) ≡ Some form
    → (e : QuestionError) → IsSelectorError form.0.0 e → Told (QuestionMeans query) (Err e)
refused_selector query form is Memory p = tt
refused_selector query form is (Refused BadQuery) p = absurd p
refused_selector query form is (Refused (BadSelector error)) p = (form, is, p)
refused_selector query form is (Refused NoSeries) p = absurd p

-- a form that asks about no series
pub refused_about : (query : List ℕ) (form : FormSeen) → form_in (query_pairs query) ≡ Some form
    → (matchers : List MatcherView) → IsAccepted form.0.0 matchers → (e : QuestionError)
    → IsAboutError form.1 e → Told (QuestionMeans query) (Err e)
refused_about query form is matchers accepted Memory p = tt
refused_about query form is matchers accepted (Refused BadQuery) p = absurd p
refused_about query form is matchers accepted (Refused (BadSelector error)) p = absurd p
refused_about query form is matchers accepted (Refused NoSeries) p =
    (form, is, record { matchers = matchers; accepted = accepted; none = p })
