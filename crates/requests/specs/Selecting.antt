-- What a query string asks of `/select`.
use Rattle.std.specs.Prelude.{◌≡◌, ℕ, ℤ, List, None, Some, Ok, Err, ⊤}
use Rattle.matchers.specs.Views.{QueryView}
use Rattle.matchers.specs.Selectors.{IsAccepted, IsTextRefusal}
use Rattle.requests.specs.declared.refusal.Refusal.TheVariants.{BadQuery, BadSelector}
use Rattle.requests.specs.declared.request.Request.TheVariants.{Select}
use Rattle.requests.specs.declared.request.ReadError.{ReadError}
use Rattle.requests.specs.declared.request.ReadError.TheVariants.{Memory, Refused}
use Rattle.requests.specs.QueryStrings.{query_pairs, asked_in}
use Rattle.requests.specs.Requests.{Meaning}

-- why a selector's text gives no matchers
abbrev pub IsSelectorError : List ℕ → ReadError → Type 0
IsSelectorError text (Refused (BadSelector error)) = IsTextRefusal text error
IsSelectorError text Memory = ⊤
IsSelectorError text _ = ⊥

-- the query has the matchers of a form's text and its two times
pub record IsQueryAskedBy (form : List ℕ × ℤ × ℤ) (query : QueryView) : Type 0 where
  pub matchers : IsAccepted form.0 query.matchers
  pub from : query.from ≡ form.1
  pub to : query.to ≡ form.2

-- a query string of the form asks a query, or its selector is refused; another is a bad one
abbrev pub SelectMeans : List ℕ → Meaning → Type 0
SelectMeans query (Ok (Select asked)) =
    (form : List ℕ × ℤ × ℤ) × (asked_in (query_pairs query) ≡ Some form) × IsQueryAskedBy form asked
SelectMeans query (Ok _) = ⊥
SelectMeans query (Err BadQuery) = asked_in (query_pairs query) ≡ None
SelectMeans query (Err (BadSelector error)) =
    (form : List ℕ × ℤ × ℤ) × (asked_in (query_pairs query) ≡ Some form)
    × IsTextRefusal form.0 error
SelectMeans query (Err _) = ⊥
