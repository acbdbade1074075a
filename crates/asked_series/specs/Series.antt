-- The series that somebody asks about.
use Rattle.std.specs.Prelude.{◌≡◌, ℕ, Bool, true, false, List, Some, map}
use Rattle.std.specs.List.{list_all}
use Rattle.labels.specs.Labels.{Labels}
use Rattle.labels.specs.LabelSets.{IsMadeOf, refusal_of}
use Rattle.labels.specs.declared.error.LabelError.{LabelError}
use Rattle.labels.specs.declared.error.LabelError.TheVariants.{BadName, Repeated, Limit}
use Rattle.labels.specs.declared.error.LabelError.TheVariants as label
use Rattle.matchers.specs.Selectors.{IsAccepted, IsTextRefusal}
use Rattle.matchers.specs.Views.{MatcherView}
use Rattle.matchers.specs.declared.error.SelectorError.{SelectorError}
use Rattle.matchers.specs.declared.error.SelectorError.TheVariants.{Syntax, Empty, TooMany}
use Rattle.matchers.specs.declared.error.SelectorError.TheVariants.{PatternTooLong, PatternRefused}
use Rattle.matchers.specs.declared.error.SelectorError.TheVariants as selector
use Rattle.matchers.specs.declared.matcher.Op.{Op}
use Rattle.matchers.specs.declared.matcher.Op.TheVariants.{Equal, NotEqual, Like, NotLike}
use Rattle.asked_series.specs.declared.error.SeriesError.{SeriesError}
use Rattle.asked_series.specs.declared.error.SeriesError.TheVariants.{NoSeries, Memory}

abbrev pub is_equal : Op → Bool
is_equal Equal = true
is_equal NotEqual = false
is_equal Like = false
is_equal NotLike = false

-- whether each compares by =
abbrev pub are_equal : List MatcherView → Bool
are_equal matchers = list_all (λ (m : MatcherView). is_equal m.op) matchers

-- the names and the texts of matchers
abbrev pub named_texts : List MatcherView → List (List ℕ × List ℕ)
named_texts matchers = map (λ (m : MatcherView). (m.name, m.text)) matchers

-- the label set that has the texts of matchers at their names
abbrev pub AreLabels : List MatcherView → Labels → Type 0
AreLabels matchers labels = IsMadeOf labels (named_texts matchers)

-- the names and the texts of matchers break a rule of label sets
pub record BreakRule (matchers : List MatcherView) : Type 0 where
  pub error : LabelError
  pub is : refusal_of (named_texts matchers) ≡ Some error

-- why they are no label set: by a rule that they break, or memory failed
abbrev pub IsLabelsFault : List MatcherView → SeriesError → Type 0
IsLabelsFault matchers NoSeries = BreakRule matchers
IsLabelsFault matchers Memory = Unit {0}

-- the error that pairs make which are no label set
abbrev pub labels_fault : LabelError → SeriesError
labels_fault BadName = NoSeries
labels_fault Repeated = NoSeries
labels_fault Limit = NoSeries
labels_fault label.Memory = Memory

-- the error that a text makes which is no selector
abbrev pub selector_fault : SelectorError → SeriesError
selector_fault (Syntax at) = NoSeries
selector_fault Empty = NoSeries
selector_fault TooMany = NoSeries
selector_fault PatternTooLong = NoSeries
selector_fault PatternRefused = NoSeries
selector_fault selector.Memory = Memory

-- the text is a selector with = alone, and the label set has its texts at its names
pub record IsSeries (text : List ℕ) (labels : Labels) : Type 0 where
  pub matchers : List MatcherView
  pub accepted : IsAccepted text matchers
  pub equal : are_equal matchers ≡ true
  pub are_labels : AreLabels matchers labels

-- why a text is no series: it is no selector, or one with another operator than =, or one that is
-- no label set
pub data IsNoSeries (text : List ℕ) : Type 0 where
  by_selector : (error : SelectorError) → IsTextRefusal text error → IsNoSeries text
  by_operator : (matchers : List MatcherView) → IsAccepted text matchers
      → are_equal matchers ≡ false → IsNoSeries text
  by_labels : (matchers : List MatcherView) → IsAccepted text matchers → BreakRule matchers
      → IsNoSeries text

-- why no series is read: the text is none, or memory failed
abbrev pub IsSeriesFault : List ℕ → SeriesError → Type 0
IsSeriesFault text NoSeries = IsNoSeries text
IsSeriesFault text Memory = Unit {0}
