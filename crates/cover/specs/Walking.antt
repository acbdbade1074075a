-- Where the lists of a walk stand, and how they go on.
use Rattle.std.specs.Prelude.{◌≡◌, ℕ, zero, suc, ◌+◌, ◌<◌, ◌≤◌, List, [], ◌∷◌, length, map}
use Rattle.std.specs.Prelude.{slice_index, slice_index_or, Option, None}
use Rattle.std.specs.List.{filter}
use Rattle.labels.specs.Ascending.{first_of, rest_of, first_or_end, not_below}
use Rattle.labels.specs.Parts.{Part, references_where}
use Rattle.labels.specs.Sets.{has}
use Rattle.matchers.specs.Satisfies.{satisfies}
use Rattle.matchers.specs.Views.{MatcherView}
use Rattle.cover.specs.declared.certificate.Verdict.{Verdict}
use Rattle.cover.specs.declared.certificate.Verdict.TheVariants.{Match, NoSample, Rejected}
use Rattle.cover.specs.Certificates.{Asked}

-- what remains of each list, which stands beside the count of its moves
abbrev pub remaining_of_each : {P : Type 0} → (P → List ℕ) → List (P × ℕ) → List (List ℕ)
remaining_of_each remaining lists = map (λ list. remaining list.0) lists

-- the list of each matcher: the references of the part whose label set satisfies it
abbrev pub matcher_lists : Part → List MatcherView → List (List ℕ)
matcher_lists part matchers =
    map (λ m. references_where (λ labels. satisfies m labels) part) matchers

-- the references that matcher j accepts
abbrev pub accepted_by : Asked → ℕ → List ℕ
accepted_by a j = filter (λ (r : ℕ). a.accepts j r) a.references

-- the live references
abbrev pub alive : Asked → List ℕ
alive a = filter (λ (r : ℕ). a.live r) a.references

-- the list of this number, or none
abbrev pub list_at : List (List ℕ) → ℕ → List ℕ
list_at [] j = []
list_at (xs ∷ xss) zero = xs
list_at (xs ∷ xss) (suc j) = list_at xss j

-- what is asked by a list of all references, a list of the accepted ones for each matcher, and a
-- list of the live ones
abbrev pub asked_by_lists : List ℕ → List (List ℕ) → List ℕ → Asked
asked_by_lists references lists live = record {
  references = references;
  matchers = length lists;
  accepts = λ j r. has (list_at lists j) r;
  live = λ r. has live r;
}

-- what is asked by what remains of a walk's lists, each of which stands beside the count of its
-- moves: the list of all references, a list for each matcher, and the list of the live ones
abbrev pub asked_in_walk : {P Q L : Type 0} → (P → List ℕ) → (Q → List ℕ) → (L → List ℕ) → P × ℕ
    → List (Q × ℕ) → L × ℕ → Asked
asked_in_walk of_all of_list of_live all lists live =
    asked_by_lists (of_all all.0) (remaining_of_each of_list lists) (of_live live.0)

-- what remains of each list are the references that the matcher of its number accepts
abbrev pub AreAcceptedLists : {P : Type 0} → (P → List ℕ) → Asked → List (P × ℕ) → Type 0
AreAcceptedLists {P} remaining a lists =
    (j : ℕ) (d : P × ℕ) → j < length lists
    → remaining (slice_index_or lists j d).0 ≡ accepted_by a j

-- each list has gone on to the reference
abbrev pub AllMovedTo : {P : Type 0} → (P → List ℕ) → ℕ → List (P × ℕ) → List (P × ℕ) → Type 0
AllMovedTo {P} remaining from before after =
    (k : ℕ) (d : P × ℕ) → k < length before
    → remaining (slice_index_or after k d).0
    ≡ not_below from (remaining (slice_index_or before k d).0)

-- no list has moved more than once, by its count
abbrev pub AllMovedAtMostOnce : {P : Type 0} → List (P × ℕ) → List (P × ℕ) → Type 0
AllMovedAtMostOnce {P} before after =
    (k : ℕ) (d : P × ℕ) → k < length before
    → (slice_index_or after k d).1 ≤ (slice_index_or before k d).1 + 1

-- no list has moved, by its count
abbrev pub AllFresh : {P : Type 0} → List (P × ℕ) → Type 0
AllFresh {P} lists = (k : ℕ) (d : P × ℕ) → k < length lists → (slice_index_or lists k d).1 ≡ 0

-- no list has moved more than n times, by its count
abbrev pub AllMovedAtMost : {P : Type 0} → ℕ → List (P × ℕ) → Type 0
AllMovedAtMost {P} n lists =
    (k : ℕ) (d : P × ℕ) → k < length lists → (slice_index_or lists k d).1 ≤ n

-- of n lists that begin at `begins k` and the live list, which begins at `live`: none begins past
-- `end`; under Match that is `from`, under Rejected j list j is the first of those that begin
-- there, past `from`, and under NoSample the live list alone begins there
abbrev pub IsFarthestAt : (ℕ → ℕ) → ℕ → ℕ → ℕ → Verdict → ℕ → Type 0
IsFarthestAt begins n live from Match end = end ≡ from
IsFarthestAt begins n live from NoSample end =
    (live ≡ end) × (from < end) × ((k : ℕ) → k < n → begins k < end)
IsFarthestAt begins n live from (Rejected j) end =
    (j < n) × (begins j ≡ end) × (from < end) × ((k : ℕ) → k < j → begins k < end)

pub record TellsFarthest (begins : ℕ → ℕ) (n live from : ℕ) (verdict : Verdict)
    (end : ℕ) : Type 0 where
  pub least : (k : ℕ) → k < n → begins k ≤ end
  pub live_least : live ≤ end
  pub not_before : from ≤ end
  pub at : IsFarthestAt begins n live from verdict end

-- where the list of this number begins
abbrev pub begins_at : {P : Type 0} → (P → List ℕ) → List (P × ℕ) → ℕ → ℕ
begins_at remaining lists k =
    slice_index (map (λ list. first_or_end (remaining list.0)) lists) k

-- which list of a walk begins farthest past `from`, and where
abbrev pub TellsFarthestIn : {P L : Type 0} → (P → List ℕ) → (L → List ℕ) → List (P × ℕ) → L × ℕ
    → ℕ → Verdict → ℕ → Type 0
TellsFarthestIn of_list of_live lists live from verdict end =
    TellsFarthest (begins_at of_list lists) (length lists) (first_or_end (of_live live.0)) from
    verdict end

-- what remains of the list of all and the reference that is next, after a seek to `end`
abbrev pub Sought : List ℕ → List ℕ → ℕ → Option ℕ → Type 0
Sought before after end next =
    (end < 4294967296 → (after ≡ not_below end before) × (next ≡ first_of after))
    × (4294967296 ≤ end → next ≡ None)

-- what remains of the list of all and the reference that is next, after a verdict that goes up to
-- `end`
abbrev pub MovesOn : List ℕ → List ℕ → Verdict → ℕ → Option ℕ → Type 0
MovesOn before after Match end next = (after ≡ rest_of before) × (next ≡ first_of after)
MovesOn before after NoSample end next = Sought before after end next
MovesOn before after (Rejected j) end next = Sought before after end next
