-- Certificates of a part: of each run of its references, why it answers a query or does not.
use Rattle.std.specs.Prelude.{◌≡◌, ℕ, ◌<◌, ◌≤◌, Bool, true, false, ◌&&◌, List, [], ◌∷◌, length, map}
use Rattle.std.specs.Prelude.{nat_le, nat_lt, Some}
use Rattle.std.specs.List.{filter, flat_map, Contains}
use Rattle.std.specs.List.Sorted.{IsStrictlyIncreasing}
use Rattle.labels.specs.Ascending.{first_of}
use Rattle.cover.specs.declared.certificate.Interval.{Interval}
use Rattle.cover.specs.declared.certificate.Verdict.{Verdict}
use Rattle.cover.specs.declared.certificate.Verdict.TheVariants.{Match, NoSample, Rejected}

-- A part and what is asked of it: its references, the number of matchers, whether matcher j accepts
-- the label set of reference r, and whether reference r is live, which is to have an undeleted
-- sample in the range.
pub record Asked : Type 0 where
  pub references : List ℕ
  pub matchers : ℕ
  pub accepts : ℕ → ℕ → Bool
  pub live : ℕ → Bool

-- The references ascend strictly and are below 2^32.
pub record IsAsked (a : Asked) : Type 0 where
  pub ascending : IsStrictlyIncreasing a.references
  pub in_range : (r : ℕ) → Contains a.references r → r < 4294967296

-- All references of the part between two numbers, both included.
abbrev pub references_between : Asked → ℕ → ℕ → List ℕ
references_between a low high = filter (λ r. nat_le low r && nat_le r high) a.references

-- A run: all references of the part between two of its references, both included.
pub record IsRun (a : Asked) (run : List ℕ) : Type 0 where
  pub low : ℕ
  pub high : ℕ
  pub has_low : Contains a.references low
  pub has_high : Contains a.references high
  pub ordered : low ≤ high
  pub is : run ≡ references_between a low high

-- A partition: runs which, one after another, are the references of the part.
pub record IsPartition (a : Asked) (runs : List (List ℕ)) : Type 0 where
  pub each : (run : List ℕ) → Contains runs run → IsRun a run
  pub whole : flat_map (λ run. run) runs ≡ a.references

-- A reference matches where every matcher accepts it and it is live.
abbrev pub IsMatching : Asked → ℕ → Type 0
IsMatching a r = ((j : ℕ) → j < a.matchers → a.accepts j r ≡ true) × (a.live r ≡ true)

-- A run fits under Match where it is one reference and that matches, under NoSample where no
-- reference of it is live, and under Rejected j where there is a matcher j and it accepts no
-- reference of the run.
abbrev pub FitsUnder : Asked → Verdict → List ℕ → Type 0
FitsUnder a Match run = (r : ℕ) × (run ≡ r ∷ []) × IsMatching a r
FitsUnder a NoSample run = (r : ℕ) → Contains run r → a.live r ≡ false
FitsUnder a (Rejected j) run = (j < a.matchers) × ((r : ℕ) → Contains run r → a.accepts j r ≡ false)

-- A fitting run: a run that fits under some verdict.
pub record IsFittingRun (a : Asked) (run : List ℕ) : Type 0 where
  pub is_run : IsRun a run
  pub verdict : Verdict
  pub fits : FitsUnder a verdict run

-- The references that an interval stands for: those from its first number up to, not including, its
-- second.
abbrev pub run_of : Asked → Interval → List ℕ
run_of a i = filter (λ r. nat_le i.from r && nat_lt r i.until) a.references

-- Where the first of these intervals begins, or the end of all references.
abbrev pub next_from : List Interval → ℕ
next_from [] = 4294967296
next_from (i ∷ is) = i.from

-- Each interval ends where the next one begins, and the last one at the end of all references.
abbrev pub IsChained : List Interval → Type 0
IsChained [] = Unit {0}
IsChained (i ∷ is) = (i.until ≡ next_from is) × IsChained is

-- A valid certificate: a partition, each run with a verdict under which it fits.
pub record IsValidCertificate (a : Asked) (certificate : List Interval) : Type 0 where
  pub partition : IsPartition a (map (run_of a) certificate)
  pub begins : (i : Interval) → Contains certificate i → Contains (run_of a i) i.from
  pub chained : IsChained certificate
  pub fits : (i : Interval) → Contains certificate i → FitsUnder a i.verdict (run_of a i)

-- No valid certificate has fewer intervals.
abbrev pub IsLeast : Asked → List Interval → Type 0
IsLeast a certificate =
    (other : List Interval) → IsValidCertificate a other → length certificate ≤ length other

-- Strictly ascending references of the part, such that no fitting run contains two of them.
pub record AreSeparators (a : Asked) (separators : List ℕ) : Type 0 where
  pub ascending : IsStrictlyIncreasing separators
  pub of_part : (r : ℕ) → Contains separators r → Contains a.references r
  pub apart : (r s : ℕ) → Contains separators r → Contains separators s → r < s →
      (run : List ℕ) → IsFittingRun a run → Contains run r → Contains run s → ⊥

-- No fitting run that begins where the interval's run begins is longer than it.
abbrev pub IsLongest : Asked → Interval → Type 0
IsLongest a i =
    (run : List ℕ) → IsFittingRun a run → first_of run ≡ Some i.from
    → length run ≤ length (run_of a i)

-- A Rejected verdict names the smallest matcher under which the run fits, and NoSample stands only
-- where none is.
abbrev pub NamesSmallest : Asked → Verdict → List ℕ → Type 0
NamesSmallest a Match run = Unit {0}
NamesSmallest a NoSample run = (k : ℕ) → FitsUnder a (Rejected k) run → ⊥
NamesSmallest a (Rejected j) run = (k : ℕ) → FitsUnder a (Rejected k) run → j ≤ k

-- The leftmost certificate: a valid one whose runs are each as long as can be, with the verdict to
-- be preferred.
pub record IsLeftmost (a : Asked) (certificate : List Interval) : Type 0 where
  pub valid : IsValidCertificate a certificate
  pub longest : (i : Interval) → Contains certificate i → IsLongest a i
  pub smallest : (i : Interval) → Contains certificate i → NamesSmallest a i.verdict (run_of a i)

-- The first references of the intervals.
abbrev pub begins_of : List Interval → List ℕ
begins_of certificate = map (λ i. i.from) certificate

abbrev pub is_match : Verdict → Bool
is_match Match = true
is_match NoSample = false
is_match (Rejected j) = false

-- The first references of the intervals under Match: each is the one reference of its run.
abbrev pub matches_of : List Interval → List ℕ
matches_of certificate = begins_of (filter (λ i. is_match i.verdict) certificate)

-- Exactly the references of the part that match, strictly ascending.
pub record AreMatches (a : Asked) (matches : List ℕ) : Type 0 where
  pub ascending : IsStrictlyIncreasing matches
  pub matching : (r : ℕ) → Contains matches r → Contains a.references r × IsMatching a r
  pub every : (r : ℕ) → Contains a.references r → IsMatching a r → Contains matches r
