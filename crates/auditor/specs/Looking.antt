-- What an auditor looks at, series by series.
use Rattle.std.specs.Prelude.{ℕ, ℤ, Bool, true, false, not, ◌&&◌, ◌||◌, ◌==◌, List, [], ◌∷◌, Option}
use Rattle.std.specs.Prelude.{None, Some, map, nat_le, nat_lt, ◌+◌, if◌then◌else◌}
use Rattle.std.specs.List.{filter, list_all, list_any}
use Rattle.labels.specs.Contents.{in_range}
use Rattle.labels.specs.Rows.{Row}
use Rattle.labels.specs.Parts.{Part, references, has_sample}
use Rattle.labels.specs.Ascending.{first_or_end}
use Rattle.matchers.specs.Satisfies.{satisfies, satisfies_all}
use Rattle.matchers.specs.Views.{MatcherView, QueryView}
use Rattle.cover.specs.declared.certificate.Interval.{Interval}
use Rattle.cover.specs.declared.certificate.Verdict.{Verdict}
use Rattle.cover.specs.declared.certificate.Verdict.TheVariants.{Match, NoSample, Rejected}
use Rattle.cover.specs.Asking.{satisfies_at}

-- the series whose references are below a bound
abbrev pub rows_below : ℕ → Part → Part
rows_below bound rows = filter (λ (row : ℕ × Row). nat_lt row.0 bound) rows

-- the other series
abbrev pub rows_from : ℕ → Part → Part
rows_from bound rows = filter (λ (row : ℕ × Row). nat_le bound row.0) rows

-- the first reference, or the end of all references
abbrev pub first_reference : Part → ℕ
first_reference rows = first_or_end (references rows)

-- whether the intervals cut the series into runs, one after another
abbrev pub cuts : List Interval → Part → Bool
cuts [] rows = first_reference rows == 4294967296
cuts (i ∷ is) rows =
    (i.from == first_reference rows) && nat_lt i.from i.until
    && (i.until == first_reference (rows_from i.until rows))
    && cuts is (rows_from i.until rows)

-- whether a series answers: it satisfies every matcher and has a sample in the range
abbrev pub answers : QueryView → ℕ × Row → Bool
answers query row = satisfies_all query.matchers row.1.0 && has_sample query.from query.to row.1.1

-- whether no series has a sample in the range
abbrev pub are_silent : QueryView → Part → Bool
are_silent query rows = list_all (λ (row : ℕ × Row). not (has_sample query.from query.to row.1.1))
    rows

-- whether the matcher accepts no series
abbrev pub rejects_each : MatcherView → Part → Bool
rejects_each matcher rows = list_all (λ (row : ℕ × Row). not (satisfies matcher row.1.0)) rows

-- whether the matcher of this number accepts no series
abbrev pub are_rejected : QueryView → ℕ → Part → Bool
are_rejected query j rows =
    list_all (λ (row : ℕ × Row). not (satisfies_at query.matchers j row.1.0)) rows

-- whether there is one series, and it answers
abbrev pub is_one_match : QueryView → Part → Bool
is_one_match query [] = false
is_one_match query (row ∷ []) = answers query row
is_one_match query (row ∷ other ∷ rows) = false

-- whether the series of a run fit under a verdict
abbrev pub fits : QueryView → Verdict → Part → Bool
fits query Match rows = is_one_match query rows
fits query NoSample rows = are_silent query rows
fits query (Rejected j) rows = are_rejected query j rows

-- the verdict of the first interval whose run does not fit under it
abbrev pub first_misfit : QueryView → List Interval → Part → Option Verdict
first_misfit query [] rows = None
first_misfit query (i ∷ is) rows =
    if fits query i.verdict (rows_below i.until rows)
    then first_misfit query is (rows_from i.until rows)
    else Some i.verdict

-- whether the series begin with this reference
abbrev pub begin_with : ℕ → Part → Bool
begin_with r [] = false
begin_with r (row ∷ rows) = row.0 == r

-- the series after the first
abbrev pub after_first : Part → Part
after_first [] = []
after_first (row ∷ rows) = rows

-- whether the separators are references of the series, in their order
abbrev pub are_picked : List ℕ → Part → Bool
are_picked [] rows = true
are_picked (s ∷ ss) rows = begin_with s (rows_from s rows)
    && are_picked ss (after_first (rows_from s rows))

-- whether all series have no sample in the range, or one matcher accepts none of them
abbrev pub share_verdict : QueryView → Part → Bool
share_verdict query rows = list_any (λ matcher. rejects_each matcher rows) query.matchers
    || are_silent query rows

-- the first place from this one on at which a separator shares a fitting run with the one before
-- it; the series begin with the one before the first of these
abbrev pub first_shared : QueryView → ℕ → List ℕ → Part → Option ℕ
first_shared query at [] rows = None
first_shared query at (s ∷ ss) rows =
    if share_verdict query (rows_below (s + 1) rows) then Some at
    else first_shared query (at + 1) ss (rows_from s rows)

-- the least place at which a separator and the next share a fitting run
abbrev pub shared_at : QueryView → List ℕ → Part → Option ℕ
shared_at query [] part = None
shared_at query (r ∷ ss) part = first_shared query 0 ss (rows_from r part)

-- the row with its samples in the closed range alone
abbrev pub row_within : ℤ → ℤ → Row → Row
row_within from to row = (row.0, filter (λ (s : ℤ × ℤ). in_range from to s.0) row.1)

-- the rows of the series that answer, in the order of their references
abbrev pub rows_found : QueryView → Part → List Row
rows_found query part = map (λ row. row_within query.from query.to row.1)
    (filter (answers query) part)
