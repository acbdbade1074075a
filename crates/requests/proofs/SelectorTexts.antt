-- What the parts of a query string give the whole.
use Rattle.std.proofs.Common.{◌≡◌, ◌<◌, ◌≤◌, ℕ, ℤ, true, false, List, length, Some, Err, IsErrOf}
use Rattle.std.proofs.Common.{refl, sym, ap, true≢false, arith, ◌∙◌}
use Rattle.matchers.specs.Views.{MatcherView, QueryView}
use Rattle.matchers.specs.Queries.{is_query_range}
use Rattle.matchers.specs.Selectors.{IsAccepted}
use Rattle.matchers.specs.declared.error.QueryError.{QueryError}
use Rattle.matchers.specs.declared.error.QueryError.TheVariants.{BadRange, TooManyMatchers}
use Rattle.requests.specs.declared.refusal.Refusal.TheVariants.{BadHead, HeadTooLong, NoSuchPath}
use Rattle.requests.specs.declared.refusal.Refusal.TheVariants.{Method, BadQuery, BadSelector}
use Rattle.requests.specs.declared.refusal.Refusal.TheVariants.{BadBody, BodyTooLong}
use Rattle.requests.specs.declared.refusal.Refusal.TheVariants.{Refused as RefusedEvent}
use Rattle.requests.specs.declared.refusal.Refusal.TheVariants.{Unavailable, NotKept, Guarded}
use Rattle.requests.specs.declared.refusal.Refusal.TheVariants.{NoRoom}
use Rattle.requests.specs.declared.request.ReadError.{ReadError}
use Rattle.requests.specs.declared.request.ReadError.TheVariants.{Closed, Fault, Memory, Refused}
use Rattle.requests.specs.QueryStrings.{query_pairs, asked_in}
use Rattle.requests.specs.Requests.{Told}
use Rattle.requests.specs.Selecting.{IsQueryAskedBy, IsSelectorError, SelectMeans}

pub refused_select : (query : List ℕ) (form : List ℕ × ℤ × ℤ) → asked_in (query_pairs query)
    ≡ Some form
    → (e : ReadError) → IsSelectorError form.0 e → Told (SelectMeans query) (Err e)
refused_select query form is Closed p = absurd p
refused_select query form is Fault p = absurd p
refused_select query form is Memory p = tt
refused_select query form is (Refused BadHead) p = absurd p
refused_select query form is (Refused HeadTooLong) p = absurd p
refused_select query form is (Refused NoSuchPath) p = absurd p
refused_select query form is (Refused Method) p = absurd p
refused_select query form is (Refused BadQuery) p = absurd p
refused_select query form is (Refused (BadSelector error)) p = (form, is, p)
refused_select query form is (Refused BadBody) p = absurd p
refused_select query form is (Refused BodyTooLong) p = absurd p
refused_select query form is (Refused (RefusedEvent cause)) p = absurd p
refused_select query form is (Refused Unavailable) p = absurd p
refused_select query form is (Refused NotKept) p = absurd p
refused_select query form is (Refused Guarded) p = absurd p
refused_select query form is (Refused NoRoom) p = absurd p

-- what `Query::new` answers, of the numbers that it was passed
pub no_query_error : (e : QueryError) (from to a b : ℤ) (ms : List MatcherView) → a ≡ from → b ≡ to
    → is_query_range from to ≡ true → length ms ≤ 16
    → (IsErrOf {T = QueryView} (Err e) BadRange → is_query_range a b ≡ false)
    → (IsErrOf {T = QueryView} (Err e) TooManyMatchers → (is_query_range a b ≡ true)
    × (16 < length ms)) → ⊥
no_query_error BadRange from to a b ms same_from same_to range few bad many =
    true≢false (sym range ∙ (rw (same_from, same_to) at (bad refl)))
no_query_error TooManyMatchers from to a b ms same_from same_to range few bad many = omega
    (arith, few, (many refl).1)

pub query_of : (form : List ℕ × ℤ × ℤ) (ms : List MatcherView) (q : QueryView) (a b : ℤ)
    → IsAccepted form.0 ms
    → q ≡ record { matchers = ms; from = a; to = b } → a ≡ form.1 → b ≡ form.2
    → IsQueryAskedBy form q
query_of form ms q a b are is same_from same_to = record {
  matchers = rw is are;
  from = ap (λ (q : QueryView). q.from) is ∙ same_from;
  to = ap (λ (q : QueryView). q.to) is ∙ same_to;
}
