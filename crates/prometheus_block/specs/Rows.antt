-- The rows of a block, by what its files hold.
use Rattle.std.specs.Prelude.{◌≡◌, ℕ, ◌<◌, ℤ, List, [], ◌∷◌, ◌++◌, length, map, get_or}
use Rattle.std.specs.List.{All}
use Rattle.labels.specs.Labels.{Labels}
use Rattle.labels.specs.Parts.{within}
use Rattle.labels.specs.Rows.{Row}
use Rattle.index_reader.specs.Indexes.{Series}
use Rattle.xor_reader.specs.Grammar.{Sample}
use Rattle.kept_samples.specs.declared.keeping.Asked.{Asked}
use Rattle.kept_samples.specs.declared.keeping.Tally.{Tally}
use Rattle.prometheus_block.specs.declared.rows.KeptSeries.{KeptSeries}
use Rattle.prometheus_block.specs.declared.rows.Wanted.{Wanted}
use Rattle.kept_samples.specs.Keeping.{Keeps}
use Rattle.prometheus_block.specs.Series.{Segments, AreSamplesIn}

-- what is asked of the samples of a series is what is wanted of its block
pub record IsAskedOf (wanted : Wanted) (s : Series) (asked : Asked) : Type 0 where
  pub form : asked.form ≡ wanted.form
  pub times : asked.times ≡ wanted.times
  pub deletions : asked.tombstones.now ≡ wanted.tombstones.now
  pub reference : asked.reference ≡ s.reference

-- the row of samples, if there is one
abbrev pub row_if : Labels → List (ℤ × ℤ) → List Row
row_if labels [] = []
row_if labels (x ∷ samples) = (labels, x ∷ samples) ∷ []

-- the rows with their samples in a closed range; a row without one is none
abbrev pub rows_between : ℤ → ℤ → List Row → List Row
rows_between from to [] = []
rows_between from to (row ∷ rows) =
    row_if row.0 (within from to row.1) ++ rows_between from to rows

-- after some rows stands that of a series: what is kept of the samples that its chunks hold
pub record IsRowAfter (reads : Segments) (wanted : Wanted) (s : Series) (old new : List Row)
    (counts counted : Tally) : Type 0 where
  pub samples : List Sample
  pub held : AreSamplesIn reads wanted.times s.chunks samples
  pub asked : Asked
  pub of : IsAskedOf wanted s asked
  pub kept : List (ℤ × ℤ)
  pub keeps : Keeps asked samples [] kept counts counted
  pub row : new ≡ old ++ row_if s.labels kept

-- the rows of series, one after the other
abbrev pub AreRowsOf : Segments → Wanted → List Series → List Row → Tally → Tally → Type 0
AreRowsOf reads wanted [] rows counts counted = (rows ≡ []) × (counted ≡ counts)
AreRowsOf reads wanted (s ∷ ss) rows counts counted =
    (first rest : List Row) × (mid : Tally) × (rows ≡ first ++ rest)
    × IsRowAfter reads wanted s [] first counts mid × AreRowsOf reads wanted ss rest mid counted

-- what stands where no series does
abbrev pub no_series : Series
no_series = record { reference = 0; labels = []; chunks = [] }

-- the row of what is kept of a series
abbrev pub row_kept : List Series → KeptSeries → Row
row_kept series kept = ((get_or series kept.at no_series).labels, kept.samples.items)

-- the rows of what is kept of series
abbrev pub rows_kept : List Series → List KeptSeries → List Row
rows_kept series all = map (row_kept series) all

-- the places are those of series
abbrev pub ArePlaced : List Series → List KeptSeries → Type 0
ArePlaced series all = All (λ (kept : KeptSeries). kept.at < length series) all
