-- What a request for a listing asks.
use Rattle.std.specs.Prelude.{◌≡◌, ◌⊎◌, ℕ, ℤ, List, [], ◌∷◌, ◌++◌, length, codes}
use Rattle.std.specs.Prelude.{Result, Ok, Err}
use Rattle.std.specs.List.{AllZip, cons_option, filter_map}
use Rattle.matchers.specs.declared.error.SelectorError.{SelectorError}
use Rattle.matchers.specs.declared.error.SelectorError.TheVariants as errors
use Rattle.matchers.specs.declared.limits.Limits.TheVariants.{Long}
use Rattle.matchers.specs.Limits.{IsAcceptedWithin, IsRefusalWithin}
use Rattle.matchers.specs.Views.{MatcherView, QueryView}
use Rattle.requests.specs.QueryStrings.{query_pairs, values_named}
use Rattle.requests.specs.Targets.{query_text}
use Rattle.remote_requests.specs.declared.asked.Asked.TheVariants.{List as ListAsked}
use Rattle.remote_requests.specs.declared.asked.Listing.{Listing}
use Rattle.remote_requests.specs.declared.asked.ReadError.{ReadError}
use Rattle.remote_requests.specs.declared.asked.ReadError.TheVariants.{Memory, Refused}
use Rattle.remote_requests.specs.declared.listings.Bounds.{Bounds}
use Rattle.remote_requests.specs.declared.path.Path.{Path}
use Rattle.remote_requests.specs.declared.refusal.Refusal.{Refusal}
use Rattle.remote_requests.specs.declared.refusal.Refusal.TheVariants.{BadSelector}
use Rattle.remote_requests.specs.Parameters.{Wanted, bounds_for, wanted_of, wanted_seen}
use Rattle.remote_requests.specs.Queries.{query_over}
use Rattle.remote_requests.specs.Writing.{Meaning}

-- the name of selectors among the parameters; it may stand several times
abbrev pub match_name : List ℕ
match_name = codes "match[]"

-- the names and the values of a form in a body, and then those of the query string
abbrev pub pairs_asked : List ℕ → List ℕ → List (List ℕ × List ℕ)
pairs_asked target body = query_pairs body ++ query_pairs (query_text target)

-- the query of a selector over a range, if it has one, was added
pub record AddsSelected (text : List ℕ) (start end : ℤ) (old new : List QueryView) : Type 0 where
  pub matchers : List MatcherView
  pub accepted : IsAcceptedWithin Long text matchers
  pub added : new ≡ old ++ cons_option (query_over matchers start end) []

-- The queries of selectors over a range, cut to the times of the store: one for each selector, or
-- none where the range has no such time. No range is refused.
pub record AreSelected (texts : List (List ℕ)) (start end : ℤ)
    (queries : List QueryView) : Type 0 where
  pub selectors : List (List MatcherView)
  pub each : AllZip (IsAcceptedWithin Long) texts selectors
  pub are : queries ≡ filter_map (λ matchers. query_over matchers start end) selectors

-- the same, and where there is no selector the query of all series
abbrev pub AreQueries : List (List ℕ) → ℤ → ℤ → List QueryView → Type 0
AreQueries [] start end queries = queries ≡ cons_option (query_over [] start end) []
AreQueries (text ∷ texts) start end queries = AreSelected (text ∷ texts) start end queries

-- the first selector that is refused, and why
pub record HasSelectorFault (texts : List (List ℕ)) (error : SelectorError) : Type 0 where
  pub front : List (List ℕ)
  pub first : List ℕ
  pub back : List (List ℕ)
  pub is : texts ≡ front ++ first ∷ back
  pub selectors : List (List MatcherView)
  pub before : AllZip (IsAcceptedWithin Long) front selectors
  pub fault : IsRefusalWithin Long first error

-- why nothing was asked, where a selector was refused
abbrev pub selector_error : SelectorError → ReadError
selector_error errors.Memory = Memory
selector_error (errors.Syntax at) = Refused (BadSelector (errors.Syntax at))
selector_error errors.Empty = Refused (BadSelector errors.Empty)
selector_error errors.TooMany = Refused (BadSelector errors.TooMany)
selector_error errors.PatternTooLong = Refused (BadSelector errors.PatternTooLong)
selector_error errors.PatternRefused = Refused (BadSelector errors.PatternRefused)

-- what is wanted, the queries, and the limit
pub record IsListingOf (wanted : Wanted) (texts : List (List ℕ)) (bounds : Bounds)
    (listing : Listing) : Type 0 where
  pub wanted_is : wanted_seen listing.wanted ≡ wanted
  pub queries : AreQueries texts bounds.start bounds.end listing.queries.items
  pub limit : listing.limit ≡ bounds.limit

-- the parameters are refused, or the first selector that is
abbrev pub IsRefusedListing : Result Bounds Refusal → List (List ℕ) → Refusal → Type 0
IsRefusedListing asked texts refusal =
    (asked ≡ Err refusal)
    ⊎ ((bounds : Bounds) × (error : SelectorError) × (asked ≡ Ok bounds)
    × HasSelectorFault texts error × (refusal ≡ BadSelector error))

-- what texts of selectors ask with these parameters
abbrev pub SelectorsMean : Wanted → Result Bounds Refusal → List (List ℕ) → Meaning → Type 0
SelectorsMean wanted asked texts (Ok (ListAsked listing)) =
    (bounds : Bounds) × (asked ≡ Ok bounds) × IsListingOf wanted texts bounds listing
SelectorsMean wanted asked texts (Ok _) = ⊥
SelectorsMean wanted asked texts (Err refusal) = IsRefusedListing asked texts refusal

-- what the pairs of a request ask of a listing
abbrev pub ListMeans : Wanted → List (List ℕ × List ℕ) → Meaning → Type 0
ListMeans wanted pairs meaning =
    SelectorsMean wanted (bounds_for wanted (length (values_named match_name pairs)) pairs)
    (values_named match_name pairs) meaning

-- the same, if the path wants something
abbrev pub WantedMeans : Result Wanted Refusal → List (List ℕ × List ℕ) → Meaning → Type 0
WantedMeans (Err refusal) pairs meaning = meaning ≡ Err refusal
WantedMeans (Ok wanted) pairs meaning = ListMeans wanted pairs meaning

-- what a path of listings asks, with the form of a body
abbrev pub ListingMeans : Path → List ℕ → List ℕ → Meaning → Type 0
ListingMeans path target body meaning =
    WantedMeans (wanted_of path target) (pairs_asked target body) meaning
