-- What adding the samples of a row does to a series that the version in the making owns.
use Rattle.std.specs.Prelude.{◌≡◌, ℕ, ℤ, List, Some, Result, Ok, Err, OnOk, slice_set}
use Rattle.std.specs.Prelude.{slice_index_or, nat_le, length, if◌then◌else◌}
use Rattle.labels.specs.Labels.{Labels}
use Rattle.head.specs.declared.error.CommitError.{CommitError}
use Rattle.head.specs.BatchRows.{pairs_with}
use Rattle.head.specs.Heads.{HeadSeries}
use Rattle.head.specs.Limits.{max_samples}
use Rattle.head.specs.Outcomes.{IsOutcome}
use Rattle.head.specs.Refusals.{Refusal, limit}
use Rattle.head.specs.Slots.{Slot, Own, series_at_place}
use Rattle.head.specs.Taking.{grown, head_added, head_added_each, place_from}

-- the series is what stands at a place of a head, where it is the first with its label set
abbrev pub StandsIn : Labels → List HeadSeries → ℕ → HeadSeries → Type 0
StandsIn l head k h =
    (place_from l 0 head ≡ Some k) × ((d : HeadSeries) → slice_index_or head k d ≡ h)

-- a series with a sample behind all others, if it has room for one
abbrev pub pushed : ℤ × ℤ → HeadSeries → Result HeadSeries Refusal
pushed s h = if nat_le max_samples (length h.samples) then Err limit else Ok (grown s h)

-- what adding a sample does to a series, it does to each head in which the series stands
abbrev pub Takes : {V : Type 0} → ℤ → ℕ → ℤ × ℤ → Result V CommitError → HeadSeries → HeadSeries
    → Type 0
Takes floor at s result old new =
    (l : Labels) (head : List HeadSeries) (k : ℕ) → StandsIn l head k old
    → IsOutcome result (head_added floor head at (l, s)) (slice_set head k new)

-- what adding samples does to a series, it does to each head in which the series stands
abbrev pub TakesEach : {V : Type 0} → ℤ → ℕ → List (ℤ × ℤ) → Result V CommitError → HeadSeries
    → HeadSeries → Type 0
TakesEach floor at samples result old new =
    (l : Labels) (head : List HeadSeries) (k : ℕ) → StandsIn l head k old
    → IsOutcome result (head_added_each floor (Ok head) at (pairs_with l samples))
    (slice_set head k new)

-- samples were added to a series that is the version's own
pub record IsOwnGrown {V : Type 0} (old new : List Slot) (place : ℕ) (floor : ℤ) (at : ℕ)
    (samples : List (ℤ × ℤ)) (added : Result V CommitError) (d : HeadSeries) : Type 0 where
  pub made : HeadSeries
  pub stands : new ≡ slice_set old place (Own made)
  pub labels : OnOk added (made.labels ≡ (series_at_place old place d).labels)
  pub step : TakesEach floor at samples added (series_at_place old place d) made
