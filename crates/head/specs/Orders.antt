-- The places of series by their label sets.
use Rattle.std.specs.Prelude.{◌≡◌, ℕ, ◌<◌, List, ◌++◌, Some, map, length, slice_index_or}
use Rattle.std.specs.FinMap.Entries.{find}
use Rattle.labels.specs.Labels.{Labels, labels_cmp}
use Rattle.head.specs.Heads.{HeadSeries}
use Rattle.head.specs.Taking.{place_from}

-- the label sets of series
abbrev pub sets_of : List HeadSeries → List Labels
sets_of head = map (λ h. h.labels) head

-- the second label sets are the first ones and perhaps more
abbrev pub Extends : List Labels → List Labels → Type 0
Extends sets longer = (more : List Labels) × (sets ++ more ≡ longer)

-- each label set stands with the place of the series that has it, and no other label set stands
-- there; no two series have one label set
pub record IsOrderOf (order : List (Labels × ℕ)) (head : List HeadSeries) : Type 0 where
  pub placed : (l : Labels) → find labels_cmp l order ≡ place_from l 0 head
  pub apart : (k : ℕ) (d : HeadSeries) → k < length head
      → place_from (slice_index_or head k d).labels 0 head ≡ Some k

-- the series at this place has the label set
pub record HasSet (head : List HeadSeries) (k : ℕ) (l : Labels) : Type 0 where
  pub inside : k < length head
  pub same : (d : HeadSeries) → (slice_index_or head k d).labels ≡ l
