-- Whether an answer is right of a part's samples, whatever references its series have.
use Rattle.std.specs.Prelude.{◌≡◌, ℕ, ◌<◌, ◌≤◌, Bool, true, not, ◌==◌, List, [], ◌∷◌, ◌++◌, length}
use Rattle.std.specs.List.{filter, AllZip}
use Rattle.labels.specs.Rows.{Row, AreRows}
use Rattle.labels.specs.Parts.{Part}
use Rattle.matchers.specs.Views.{QueryView}
use Rattle.cover.specs.declared.certificate.Interval.{Interval}
use Rattle.cover.specs.declared.part_cover.PartAnswer.{PartAnswer}
use Rattle.cover.specs.Certificates.{IsChained}
use Rattle.auditor.specs.Auditing.{all_known, selected_content}
use Rattle.auditor.specs.Looking.{fits}

-- whether a series has a sample
abbrev pub is_sampled : ℕ × Row → Bool
is_sampled row = not (length row.1.1 == 0)

-- the series that have samples, in their order
abbrev pub sampled : Part → Part
sampled part = filter is_sampled part

-- The intervals take all of these series in turn: under a match exactly one, which answers; under
-- any other verdict some, or none, of which each fits under it.
abbrev pub TakeInTurn : QueryView → List Interval → Part → Type 0
TakeInTurn query [] rows = rows ≡ []
TakeInTurn query (i ∷ is) rows =
    (taken : Part) × (rest : Part) × (rows ≡ taken ++ rest) × (fits query i.verdict taken ≡ true)
    × TakeInTurn query is rest

-- The number lies in the interval.
abbrev pub LiesIn : ℕ → Interval → Type 0
LiesIn number i = (i.from ≤ number) × (number < i.until)

-- The answer is explained by the part: no verdict names a missing matcher; each interval ends where
-- the next begins, the last one at the end of all references; each separator lies in its own
-- interval; the intervals take the series that have samples in turn; and the rows are those that
-- the query selects of the part.
pub record IsExplained (part : Part) (query : QueryView) (answer : PartAnswer) : Type 0 where
  pub known : all_known (length query.matchers) answer.cover.certificate.items ≡ true
  pub chained : IsChained answer.cover.certificate.items
  pub separated : AllZip LiesIn answer.cover.separators.items answer.cover.certificate.items
  pub taken : TakeInTurn query answer.cover.certificate.items (sampled part)
  pub rows : AreRows answer.rows.items (selected_content part query)
