-- What a query asks of a part.
use Rattle.std.specs.Prelude.{ℕ, ℤ, zero, suc, Bool, false, cond, ◌&&◌, List, [], ◌∷◌, length}
use Rattle.std.specs.Prelude.{nat_eq}
use Rattle.labels.specs.Labels.{Labels}
use Rattle.labels.specs.Parts.{Part, references, references_of, has_sample}
use Rattle.matchers.specs.Satisfies.{satisfies, satisfies_all}
use Rattle.matchers.specs.Views.{MatcherView, QueryView}
use Rattle.cover.specs.Certificates.{Asked}

-- The label set of a reference of the part.
abbrev pub labels_at : Part → ℕ → Labels
labels_at [] r = []
labels_at (row ∷ rows) r = cond (nat_eq row.0 r) row.1.0 (labels_at rows r)

-- The undeleted samples of a reference of the part.
abbrev pub samples_at : Part → ℕ → List (ℤ × ℤ)
samples_at [] r = []
samples_at (row ∷ rows) r = cond (nat_eq row.0 r) row.1.1 (samples_at rows r)

-- Whether a label set satisfies the matcher of this number.
abbrev pub satisfies_at : List MatcherView → ℕ → Labels → Bool
satisfies_at [] j labels = false
satisfies_at (m ∷ ms) zero labels = satisfies m labels
satisfies_at (m ∷ ms) (suc j) labels = satisfies_at ms j labels

-- A part and the query that is asked of it.
abbrev pub asked : Part → QueryView → Asked
asked part query = record {
  references = references part;
  matchers = length query.matchers;
  accepts = λ j r. satisfies_at query.matchers j (labels_at part r);
  live = λ r. has_sample query.from query.to (samples_at part r);
}

-- The references whose label set satisfies every matcher and that have an undeleted sample in the
-- range.
abbrev pub matching_references : Part → QueryView → List ℕ
matching_references part query =
    references_of (λ row. satisfies_all query.matchers row.1.0
    && has_sample query.from query.to row.1.1) part
