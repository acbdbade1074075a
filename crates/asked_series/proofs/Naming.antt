-- Which texts are series, and why others are none.
use Rattle.std.proofs.Common.{◌≡◌, ℕ, List, Option, None, Some, Err}
use Rattle.std.specs.Prelude.{Result, Ok, IfSome, IfNone}
use Rattle.labels.specs.LabelSets.{IsMadeOf, refusal_of}
use Rattle.labels.specs.Labels.{Labels}
use Rattle.labels.specs.declared.error.LabelError.{LabelError}
use Rattle.labels.specs.declared.error.LabelError.TheVariants.{BadName, Repeated, Limit}
use Rattle.labels.specs.declared.error.LabelError.TheVariants as label
use Rattle.matchers.specs.Selectors.{IsAccepted, RefusedBy}
use Rattle.matchers.specs.Views.{MatcherView}
use Rattle.matchers.specs.declared.error.SelectorError.{SelectorError}
use Rattle.matchers.specs.declared.error.SelectorError.TheVariants.{Syntax, Empty, TooMany}
use Rattle.matchers.specs.declared.error.SelectorError.TheVariants.{PatternTooLong, PatternRefused}
use Rattle.matchers.specs.declared.error.SelectorError.TheVariants as selector
use Rattle.asked_series.specs.Series.{named_texts, BreakRule, IsLabelsFault, labels_fault}
use Rattle.asked_series.specs.Series.{selector_fault, IsSeriesFault, by_selector, by_labels}
use Rattle.asked_series.specs.declared.error.SeriesError.{SeriesError}
use Rattle.asked_series.specs.declared.error.SeriesError.TheVariants.{NoSeries, Memory}

abbrev ok_of : Labels → Result Labels LabelError
ok_of labels = Ok labels

-- pairs that break no rule make the label set
pub made : (pairs : List (List ℕ × List ℕ)) (labels : Labels) (o : Option LabelError)
    → IfSome o (λ e. ok_of labels ≡ Err e) → IfNone o (IsMadeOf labels pairs)
    → IsMadeOf labels pairs
made pairs labels None refused is = is
made pairs labels (Some e) refused is = cc

broken : (matchers : List MatcherView) (o : Option LabelError)
    → refusal_of (named_texts matchers) ≡ o → (error : LabelError)
    → (error ≡ label.Memory → ⊥) → IfNone o (error ≡ label.Memory) → BreakRule matchers
broken matchers None is error other memory = absurd (other memory)
broken matchers (Some e) is error other memory = record { error = e; is = is }

-- pairs that are refused break a rule, or memory failed
pub why_no_labels : (matchers : List MatcherView) (o : Option LabelError)
    → refusal_of (named_texts matchers) ≡ o → (error : LabelError)
    → IfNone o (error ≡ label.Memory) → IsLabelsFault matchers (labels_fault error)
why_no_labels matchers o is label.Memory memory = tt
why_no_labels matchers o is BadName memory = broken matchers o is BadName (λ e. cc) memory
why_no_labels matchers o is Repeated memory = broken matchers o is Repeated (λ e. cc) memory
why_no_labels matchers o is Limit memory = broken matchers o is Limit (λ e. cc) memory

-- a text that is refused as a selector is no series, or memory failed
pub why_no_selector : (text : List ℕ) (error : SelectorError) → RefusedBy text error
    → IsSeriesFault text (selector_fault error)
why_no_selector text selector.Memory refused = tt
why_no_selector text (Syntax at) refused = by_selector (Syntax at) refused
why_no_selector text Empty refused = by_selector Empty refused
why_no_selector text TooMany refused = by_selector TooMany refused
why_no_selector text PatternTooLong refused = by_selector PatternTooLong refused
why_no_selector text PatternRefused refused = by_selector PatternRefused refused

-- a selector whose texts are no label set is no series
pub why_no_series : (text : List ℕ) (matchers : List MatcherView) → IsAccepted text matchers
    → (fault : SeriesError) → IsLabelsFault matchers fault → IsSeriesFault text fault
why_no_series text matchers accepted NoSeries h = by_labels matchers accepted h
why_no_series text matchers accepted Memory h = tt
