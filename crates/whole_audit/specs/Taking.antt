-- How intervals take series in turn, each as many as it can.
use Rattle.std.specs.Prelude.{ℕ, Bool, true, false, not, ◌&&◌, ◌==◌, List, [], ◌∷◌, Option, None}
use Rattle.std.specs.Prelude.{Some, nat_le, nat_lt, if◌then◌else◌}
use Rattle.std.specs.List.{list_all}
use Rattle.labels.specs.Rows.{Row}
use Rattle.labels.specs.Parts.{Part, has_sample}
use Rattle.matchers.specs.Views.{QueryView}
use Rattle.cover.specs.declared.certificate.Interval.{Interval}
use Rattle.cover.specs.declared.certificate.Verdict.{Verdict}
use Rattle.cover.specs.declared.certificate.Verdict.TheVariants.{Match, NoSample, Rejected}
use Rattle.cover.specs.Asking.{satisfies_at}
use Rattle.cover.specs.Certificates.{is_match, next_from}
use Rattle.auditor.specs.Auditing.{all_known}
use Rattle.auditor.specs.Looking.{answers}

-- whether one series by itself fits under a verdict
abbrev pub fits_alone : QueryView → Verdict → ℕ × Row → Bool
fits_alone query Match row = answers query row
fits_alone query NoSample row = not (has_sample query.from query.to row.1.1)
fits_alone query (Rejected j) row = not (satisfies_at query.matchers j row.1.0)

-- the intervals that are left once a series is taken by the first of them that may: a match takes
-- one series, and cannot be passed over
abbrev pub after_taking : QueryView → ℕ × Row → List Interval → Option (List Interval)
after_taking query row [] = None
after_taking query row (i ∷ is) =
    if fits_alone query i.verdict row then Some (if is_match i.verdict then is else i ∷ is)
    else if is_match i.verdict then None
    else after_taking query row is

-- whether no interval is a match
abbrev pub have_no_match : List Interval → Bool
have_no_match certificate = list_all (λ (i : Interval). not (is_match i.verdict)) certificate

-- whether each series is taken by the first interval that may take it, and no match is left over
abbrev pub are_taken_from : QueryView → Option (List Interval) → Part → Bool
are_taken_from query None rows = false
are_taken_from query (Some is) [] = have_no_match is
are_taken_from query (Some is) (row ∷ rows) =
    are_taken_from query (after_taking query row is) rows

-- whether each interval ends where the next begins, the last one at the end of all references
abbrev pub is_chained : List Interval → Bool
is_chained [] = true
is_chained (i ∷ is) = (i.until == next_from is) && is_chained is

-- whether each number lies in its own interval
abbrev pub lie_within : List ℕ → List Interval → Bool
lie_within [] [] = true
lie_within [] (i ∷ is) = false
lie_within (n ∷ ns) [] = false
lie_within (n ∷ ns) (i ∷ is) = nat_le i.from n && nat_lt n i.until && lie_within ns is

-- whether no verdict names a missing matcher, the intervals are a chain, and each separator lies in
-- its own interval
abbrev pub is_shaped : ℕ → List Interval → List ℕ → Bool
is_shaped matchers certificate separators =
    all_known matchers certificate && is_chained certificate && lie_within separators certificate
