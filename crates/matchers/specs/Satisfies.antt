-- Which values a matcher accepts, and which label sets satisfy it.
use Rattle.std.specs.Prelude.{ℕ, Bool, true, false, not, List}
use Rattle.std.specs.List.{list_all}
use Rattle.std.specs.Str.{bytes_eq}
use Rattle.labels.specs.Labels.{Labels, value_of}
use Rattle.matchers.specs.declared.matcher.Op.{Op}
use Rattle.matchers.specs.declared.matcher.Op.TheVariants.{Equal, NotEqual, Like, NotLike}
use Rattle.matchers.specs.Patterns.{is_full_match}
use Rattle.matchers.specs.Views.{MatcherView}

-- whether a value compares so with a text or a pattern
abbrev pub accepts_by : Op → List ℕ → List ℕ → Bool
accepts_by Equal text value = bytes_eq value text
accepts_by NotEqual text value = not (bytes_eq value text)
accepts_by Like text value = is_full_match text value
accepts_by NotLike text value = not (is_full_match text value)

-- whether an operator takes a pattern
abbrev pub takes_pattern : Op → Bool
takes_pattern Equal = false
takes_pattern NotEqual = false
takes_pattern Like = true
takes_pattern NotLike = true

-- whether a matcher accepts a value
abbrev pub accepts_text : MatcherView → List ℕ → Bool
accepts_text m value = accepts_by m.op m.text value

-- whether a matcher accepts what its name has in the label set, the empty text where it is absent
abbrev pub satisfies : MatcherView → Labels → Bool
satisfies m labels = accepts_text m (value_of labels m.name)

-- whether a label set satisfies each of the matchers
abbrev pub satisfies_all : List MatcherView → Labels → Bool
satisfies_all matchers labels = list_all (λ m. satisfies m labels) matchers
