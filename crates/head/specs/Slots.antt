-- The series of a version in the making.
use Rattle.std.specs.Prelude.{ℕ, ◌+◌, Bool, true, false, not, ◌||◌, T, List, [], ◌∷◌, ◌++◌, Option}
use Rattle.std.specs.Prelude.{None, Some, map, slice_index_or}
use Rattle.std.specs.List.{list_all, sum_by}
use Rattle.labels.specs.Labels.{Labels}
use Rattle.head.specs.Heads.{HeadSeries}

-- a series that stands as it was in the last version, or one that this version has made
pub data Slot : Type 0 where
  Shared : HeadSeries → Slot
  Own : HeadSeries → Slot

abbrev pub series_in : Slot → HeadSeries
series_in (Shared series) = series
series_in (Own series) = series

-- whether the series was made for this version
abbrev pub is_own : Slot → Bool
is_own (Shared series) = false
is_own (Own series) = true

abbrev pub series_in_each : List Slot → List HeadSeries
series_in_each slots = map (λ slot. series_in slot) slots

-- one for a series of this version's own
abbrev pub own_count : Slot → ℕ
own_count (Shared series) = 0
own_count (Own series) = 1

-- how many series are this version's own
abbrev pub owned : List Slot → ℕ
owned slots = sum_by own_count slots

-- the label sets of this version's own series pass a test
abbrev pub AllOwn : (Labels → Bool) → List Slot → Type 0
AllOwn p slots = T (list_all (λ slot. not (is_own slot) || p (series_in slot).labels) slots)

-- each own series has this label set, or one that an own series had before
abbrev pub AddsNoOwnBut : Labels → List Slot → List Slot → Type 0
AddsNoOwnBut labels old new = (p : Labels → Bool) → T (p labels) → AllOwn p old → AllOwn p new

-- the series at a place
abbrev pub series_at_place : List Slot → ℕ → HeadSeries → HeadSeries
series_at_place slots place d = slice_index_or (series_in_each slots) place d

-- a series of the last version, in whose place this one may have its own
abbrev pub slot_at : HeadSeries → Option HeadSeries → Slot
slot_at last None = Shared last
slot_at last (Some own) = Own own

-- the series of the last version, of which the first stands at this place, with this version's own
-- in their places
abbrev pub slots_from : ℕ → List HeadSeries → (ℕ → Option HeadSeries) → List Slot
slots_from n [] own = []
slots_from n (h ∷ hs) own = slot_at h (own n) ∷ slots_from (n + 1) hs own

-- the series of the last version with this version's own in their places, and then those that it
-- begins
abbrev pub slots_of : List HeadSeries → (ℕ → Option HeadSeries) → List HeadSeries → List Slot
slots_of last own begun = slots_from 0 last own ++ map (λ h. Own h) begun
