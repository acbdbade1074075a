-- Which values a matcher treats otherwise than an absent label.
use Rattle.std.specs.Prelude.{◌≡◌, ◌↔◌, ℕ, Bool, true, not, cond, List, []}
use Rattle.std.specs.List.{Contains}
use Rattle.labels.specs.Labels.{Labels, value_of}
use Rattle.matchers.specs.Views.{MatcherView}
use Rattle.matchers.specs.Satisfies.{accepts_text}

-- whether a matcher accepts one of a value and the empty text, and refuses the other
abbrev pub differs : MatcherView → List ℕ → Bool
differs m value = cond (accepts_text m []) (not (accepts_text m value)) (accepts_text m value)

-- whether it does so with what its name has in the label set
abbrev pub differs_in : MatcherView → Labels → Bool
differs_in m labels = differs m (value_of labels m.name)

-- the values that a matcher treats otherwise than an absent label are these
pub record AreDiffering (m : MatcherView) (values : List (List ℕ)) : Type 0 where
  pub each : (value : List ℕ) → (differs m value ≡ true) ↔ Contains values value
