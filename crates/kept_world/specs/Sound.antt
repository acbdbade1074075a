-- What every head keeps, and the state that a head record begins.
use Rattle.std.specs.Prelude.{ℕ, suc, ℤ, ◌≡◌, ◌≤◌, Bool, true, not, ◌&&◌, T, List, [], ◌∷◌}
use Rattle.std.specs.Prelude.{Option, Some, None}
use Rattle.std.specs.Prelude.{Vec, false, ◌++◌, int_lt, length, map, slice_set, if◌then◌else◌}
use Rattle.std.specs.List.{list_all, AllByRecursion}
use Rattle.std.specs.Ordering.{int_cmp}
use Rattle.std.specs.FinMap.Entries.{is_sorted}
use Rattle.std.specs.BTreeMap.{BTreeMap, get}
use Rattle.labels.specs.Labels.{Labels, labels_cmp, same_labels}
use Rattle.labels.specs.Rows.{Row}
use Rattle.labels.specs.Parts.{Part}
use Rattle.kept_walk.specs.Kept.{Series}
use Rattle.kept_world.specs.States.{HeadSeries, State, max_series, samples_of}

-- whether each time is below the next, and the last not above the newest one
abbrev pub rises : ℤ → List (ℤ × ℤ) → Bool
rises newest [] = true
rises newest (s ∷ []) = not (int_lt newest s.0)
rises newest (s ∷ t ∷ ss) = int_lt s.0 t.0 && rises newest (t ∷ ss)

-- times ascend strictly, and none is above the newest one
pub record IsSoundSeries (e : HeadSeries) : Type 0 where
  pub ascending : T (is_sorted int_cmp (samples_of e.samples))
  pub upto : T (list_all (λ (s : ℤ × ℤ). not (int_lt e.newest.0 s.0)) (samples_of e.samples))

-- the times of a row ascend strictly
abbrev pub IsAscending : Row → Type 0
IsAscending r = T (is_sorted int_cmp r.1)

-- the entries of a map as rows
abbrev pub rows_in : {Z : Type 0} → BTreeMap Labels (Vec (ℤ × ℤ) Z) → List Row
rows_in m = map (λ e. (e.0, e.1.items)) m.entries

-- the label sets of series, in their order
abbrev pub label_sets : List HeadSeries → List Labels
label_sets head = map (λ (e : HeadSeries). e.labels) head

abbrev pub next_place : Option ℕ → Option ℕ
next_place None = None
next_place (Some i) = Some (suc i)

-- the first place of a label set, if it stands there
abbrev pub place_in : Labels → List Labels → Option ℕ
place_in l [] = None
place_in l (m ∷ ms) = if same_labels l m then Some 0 else next_place (place_in l ms)

-- no label set stands twice
abbrev pub AreApart : List Labels → Type 0
AreApart [] = Unit {0}
AreApart (l ∷ ls) = (place_in l ls ≡ None) × AreApart ls

-- the map has the place of each label set
abbrev pub IsMapOf : BTreeMap Labels ℕ → List Labels → Type 0
IsMapOf places ls = (l : Labels) → get labels_cmp places l ≡ place_in l ls

-- label sets, each once, not too many, and a map of their places
pub record IsPlaced (ls : List Labels) (places : BTreeMap Labels ℕ) : Type 0 where
  pub maps : IsMapOf places ls
  pub apart : AreApart ls
  pub few : length ls ≤ max_series

-- a series of a head record: no event behind it brought it, or its samples
abbrev pub first_series : Series → HeadSeries
first_series e = record {
  labels = e.labels;
  born = 0;
  newest = e.newest;
  samples = map (λ s. (0, s)) e.samples;
}

abbrev pub first_head : List Series → List HeadSeries
first_head head = map first_series head

-- the times of each series ascend up to its newest one
abbrev pub AreRising : List Series → Type 0
AreRising head = AllByRecursion (λ (e : Series). T (rises e.newest.0 e.samples)) head

-- what a head record can be: the times of each series ascend up to its newest one, no label set
-- stands twice, and there are not too many series
pub record IsSoundHead (head : List Series) : Type 0 where
  pub series : AreRising head
  pub apart : AreApart (label_sets (first_head head))
  pub few : length head ≤ max_series

-- the state that a head record begins
abbrev pub started : ℤ → List Series → List Part → State
started floor head blocks = record {
  number = 0;
  floor = floor;
  head = first_head head;
  blocks = blocks;
  stored = length blocks;
}

-- WHAT CODE SAYS OF A STEP

-- accepted, with what came of it; or refused
abbrev pub Took : {A : Type 0} → Bool → Option A → A → Type 0
Took true r new = r ≡ Some new
Took false r new = r ≡ None

-- a head with one series grown, if it may
abbrev pub replaced : ℕ → Option HeadSeries → List HeadSeries → Option (List HeadSeries)
replaced i None head = None
replaced i (Some e) head = Some (slice_set head i e)

-- one more series, if there is room for it
abbrev pub begun : Bool → HeadSeries → List HeadSeries → Option (List HeadSeries)
begun room e head = if room then Some (head ++ e ∷ []) else None
