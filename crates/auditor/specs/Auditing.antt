-- What an auditor says of a part's answer: that it is sound, or its first flaw.
use Rattle.std.specs.Prelude.{◌≡◌, ◌⊎◌, ℕ, zero, suc, ◌<◌, Bool, true, false, List, [], ◌∷◌, Option}
use Rattle.std.specs.Prelude.{None, Some, length, map, nat_lt}
use Rattle.std.specs.List.{list_all, Contains}
use Rattle.std.specs.List.Sorted.{IsStrictlyIncreasing}
use Rattle.labels.specs.Contents.{Content}
use Rattle.labels.specs.Rows.{AreRows}
use Rattle.labels.specs.Parts.{Part, content_of}
use Rattle.matchers.specs.Views.{QueryView}
use Rattle.matchers.specs.Queries.{selected_by}
use Rattle.cover.specs.declared.certificate.Interval.{Interval}
use Rattle.cover.specs.declared.certificate.Verdict.{Verdict}
use Rattle.cover.specs.declared.certificate.Verdict.TheVariants.{Match, NoSample, Rejected}
use Rattle.cover.specs.declared.part_cover.PartAnswer.{PartAnswer}
use Rattle.cover.specs.Asking.{asked}
use Rattle.cover.specs.Certificates.{Asked, IsPartition, FitsUnder, IsFittingRun, run_of, IsChained}
use Rattle.cover.specs.Certificates.{IsValidCertificate, AreSeparators}
use Rattle.auditor.specs.declared.flaw.Flaw.{Flaw}
use Rattle.auditor.specs.declared.flaw.Flaw.TheVariants.{NotAPartition, NotMatching, NotRejected}
use Rattle.auditor.specs.declared.flaw.Flaw.TheVariants.{SeparatorCount, SeparatorsFit, WrongRows}
use Rattle.auditor.specs.declared.flaw.Flaw.TheVariants.{UnknownMatcher, NotSilent, Hidden}
use Rattle.auditor.specs.declared.flaw.Flaw.TheVariants.{WrongMerge, Memory}
use Rattle.auditor.specs.Errors.{OrMemory}

-- Whether a verdict names a matcher that is there, if it names one.
abbrev pub names_known : ℕ → Verdict → Bool
names_known matchers Match = true
names_known matchers NoSample = true
names_known matchers (Rejected j) = nat_lt j matchers

-- Whether no verdict names a missing matcher.
abbrev pub all_known : ℕ → List Interval → Bool
all_known matchers certificate = list_all (λ i. names_known matchers i.verdict) certificate

-- The runs of the intervals are a partition; each interval begins with a reference of its run, and
-- ends where the next one begins, the last one at the end of all references.
pub record IsCut (a : Asked) (certificate : List Interval) : Type 0 where
  pub partition : IsPartition a (map (run_of a) certificate)
  pub begins : (i : Interval) → Contains certificate i → Contains (run_of a i) i.from
  pub chained : IsChained certificate

-- Each interval's run fits under its verdict.
abbrev pub AllFit : Asked → List Interval → Type 0
AllFit a certificate = (i : Interval) → Contains certificate i → FitsUnder a i.verdict (run_of a i)

-- The first of the intervals whose run does not fit under its verdict has this verdict.
abbrev pub IsFirstMisfit : Asked → List Interval → Verdict → Type 0
IsFirstMisfit a [] v = ⊥
IsFirstMisfit a (i ∷ is) v =
    ((FitsUnder a i.verdict (run_of a i) → ⊥) × (i.verdict ≡ v))
    ⊎ (FitsUnder a i.verdict (run_of a i) × IsFirstMisfit a is v)

-- The separators are strictly ascending references of the part, as many as the intervals.
pub record AreCounted (a : Asked) (separators : List ℕ) (certificate : List Interval) : Type 0 where
  pub ascending : IsStrictlyIncreasing separators
  pub of_part : (r : ℕ) → Contains separators r → Contains a.references r
  pub as_many : length separators ≡ length certificate

-- Some fitting run contains both references.
pub record ShareARun (a : Asked) (r s : ℕ) : Type 0 where
  pub run : List ℕ
  pub fitting : IsFittingRun a run
  pub has_first : Contains run r
  pub has_second : Contains run s

-- The separators at this place, from 0, and the next share a fitting run.
abbrev pub ShareAt : Asked → List ℕ → ℕ → Type 0
ShareAt a [] at = ⊥
ShareAt a (r ∷ []) at = ⊥
ShareAt a (r ∷ s ∷ ss) zero = ShareARun a r s
ShareAt a (r ∷ s ∷ ss) (suc at) = ShareAt a (s ∷ ss) at

-- This is the least place at which a separator and the next share a fitting run.
pub record IsFirstShared (a : Asked) (separators : List ℕ) (at : ℕ) : Type 0 where
  pub shared : ShareAt a separators at
  pub least : (k : ℕ) → k < at → ShareAt a separators k → ⊥

-- The part's content restricted to the matchers and the range of the query.
abbrev pub selected_content : Part → QueryView → Content
selected_content part query = selected_by query (content_of (part ∷ []))

-- A sound answer: no verdict names a missing matcher, the intervals are a valid certificate, the
-- separators are separators and as many as the intervals, and the rows are those that the query
-- selects of the part.
pub record IsSoundAnswer (part : Part) (query : QueryView) (answer : PartAnswer) : Type 0 where
  pub known : all_known (length query.matchers) answer.cover.certificate.items ≡ true
  pub valid : IsValidCertificate (asked part query) answer.cover.certificate.items
  pub separated : AreSeparators (asked part query) answer.cover.separators.items
  pub as_many : length answer.cover.separators.items ≡ length answer.cover.certificate.items
  pub rows : AreRows answer.rows.items (selected_content part query)

-- No verdict names a missing matcher, and the intervals are a partition.
pub record IsPartitioned (part : Part) (query : QueryView) (certificate : List Interval) : Type 0
  where
    pub known : all_known (length query.matchers) certificate ≡ true
    pub cut : IsCut (asked part query) certificate

-- The first flaw of an answer, in the order of the checks: each flaw comes where what was checked
-- before it holds and its own condition does not.
abbrev pub IsFlaw : Part → QueryView → PartAnswer → Flaw → Type 0
IsFlaw part query answer UnknownMatcher =
    all_known (length query.matchers) answer.cover.certificate.items ≡ false
IsFlaw part query answer NotAPartition =
    (all_known (length query.matchers) answer.cover.certificate.items ≡ true)
    × (IsCut (asked part query) answer.cover.certificate.items → ⊥)
IsFlaw part query answer NotMatching =
    IsPartitioned part query answer.cover.certificate.items
    × IsFirstMisfit (asked part query) answer.cover.certificate.items Match
IsFlaw part query answer (NotRejected matcher) =
    IsPartitioned part query answer.cover.certificate.items
    × IsFirstMisfit (asked part query) answer.cover.certificate.items (Rejected matcher)
IsFlaw part query answer NotSilent =
    IsPartitioned part query answer.cover.certificate.items
    × IsFirstMisfit (asked part query) answer.cover.certificate.items NoSample
IsFlaw part query answer SeparatorCount =
    IsPartitioned part query answer.cover.certificate.items
    × AllFit (asked part query) answer.cover.certificate.items
    × (AreCounted (asked part query) answer.cover.separators.items answer.cover.certificate.items
    → ⊥)
IsFlaw part query answer (SeparatorsFit at) =
    IsPartitioned part query answer.cover.certificate.items
    × AllFit (asked part query) answer.cover.certificate.items
    × AreCounted (asked part query) answer.cover.separators.items answer.cover.certificate.items
    × IsFirstShared (asked part query) answer.cover.separators.items at
IsFlaw part query answer WrongRows =
    IsPartitioned part query answer.cover.certificate.items
    × AllFit (asked part query) answer.cover.certificate.items
    × AreCounted (asked part query) answer.cover.separators.items answer.cover.certificate.items
    × AreSeparators (asked part query) answer.cover.separators.items
    × (AreRows answer.rows.items (selected_content part query) → ⊥)
IsFlaw part query answer Hidden = ⊥
IsFlaw part query answer WrongMerge = ⊥
IsFlaw part query answer Memory = ⊥

-- What is said of an answer: nothing where it is sound, or else its first flaw.
abbrev pub IsJudgement : Part → QueryView → PartAnswer → Option Flaw → Type 0
IsJudgement part query answer None = IsSoundAnswer part query answer
IsJudgement part query answer (Some flaw) = IsFlaw part query answer flaw

-- The flaw of an interval whose run does not fit under its verdict.
abbrev pub misfit_flaw : Verdict → Flaw
misfit_flaw Match = NotMatching
misfit_flaw NoSample = NotSilent
misfit_flaw (Rejected matcher) = NotRejected matcher

-- Why an audit does not say yes: the first flaw of the answer, or no memory.
abbrev pub IsAuditError : Part → QueryView → PartAnswer → Flaw → Type 0
IsAuditError part query answer flaw = OrMemory (IsFlaw part query answer) flaw

-- Why a skip is not allowed: the query selects something of the part, or no memory.
abbrev pub IsHiding : Part → QueryView → Flaw → Type 0
IsHiding part query flaw =
    OrMemory (λ f. (f ≡ Hidden) × (selected_content part query ≡ [] → ⊥)) flaw
