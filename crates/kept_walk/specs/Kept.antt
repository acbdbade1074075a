-- What the journal of a store says: a head, and the events behind it.
use Rattle.std.specs.Prelude.{ℕ, ℤ, List}
use Rattle.labels.specs.Labels.{Labels}
use Rattle.labels.specs.Rows.{Row}
use Rattle.matchers.specs.Views.{MatcherView}
use Rattle.kept_walk.specs.declared.journal_state.Values.{Values}
use Rattle.kept_walk.specs.declared.journal_state.Change.{Change}
use Rattle.kept_walk.specs.declared.journal_state.Change.TheVariants.{Batch, Deletion, Cut}

-- a batch by its runs, each a label set with samples; a deletion of what lies in a closed range of
-- times and is of series that satisfy all matchers; or a cut at a time
pub data Event : Type 0 where
  batch : List Row → Event
  deletion : List MatcherView → ℤ → ℤ → Event
  cut : ℤ → Event

-- a change, without where it lies in memory
abbrev pub event_of : Change → Event
event_of (Batch runs) = batch runs.items
event_of (Deletion matchers from to) = deletion matchers.items from to
event_of (Cut time) = cut time

-- a series of the head: its samples, the oldest first, and the newest that was committed, which a
-- deletion may have taken from them
pub record Series : Type 0 where
  pub labels : Labels
  pub newest : ℤ × ℤ
  pub samples : List (ℤ × ℤ)

-- what the values mean, the floor, the numbers of the blocks' folders, the series of the head in
-- order of creation, and the events behind it, the oldest first
pub record Store : Type 0 where
  pub values : Values
  pub floor : ℤ
  pub folders : List ℕ
  pub head : List Series
  pub events : List Event
