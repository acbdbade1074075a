-- How many matchers are taken, and which patterns: of a selector, and of the larger ones of a read.
use Rattle.std.specs.Prelude.{◌≡◌, ◌⊎◌, ℕ, ◌<◌, ◌≤◌, true, List, [], ◌∷◌, ◌++◌, length, None, Some}
use Rattle.text_choices.specs.Alternatives.{Choice, choice_of}
use Rattle.matchers.specs.declared.error.SelectorError.{SelectorError}
use Rattle.matchers.specs.declared.error.SelectorError.TheVariants.{Syntax, Empty, TooMany}
use Rattle.matchers.specs.declared.error.SelectorError.TheVariants.{PatternTooLong, PatternRefused}
use Rattle.matchers.specs.declared.error.SelectorError.TheVariants.{Memory}
use Rattle.matchers.specs.declared.limits.Limits.{Limits}
use Rattle.matchers.specs.declared.limits.Limits.TheVariants.{Short, Long}
use Rattle.matchers.specs.Grammar.{IsSelector, IsNoSelector}
use Rattle.matchers.specs.Patterns.{IsPattern, IsRefusedPattern}
use Rattle.matchers.specs.Satisfies.{takes_pattern}
use Rattle.matchers.specs.Selectors.{OrMemory}
use Rattle.matchers.specs.Views.{MatcherView}

-- the most matchers
abbrev pub most_matchers : Limits → ℕ
most_matchers Short = 16
most_matchers Long = 64

-- a choice of texts with dots, of at most 65,536 bytes
pub record IsLongChoice (text : List ℕ) : Type 0 where
  pub short : length text ≤ 65536
  pub choice : Choice
  pub spelled : choice_of text ≡ Some choice

-- a pattern that is taken
abbrev pub IsPatternWithin : Limits → List ℕ → Type 0
IsPatternWithin Short text = IsPattern text
IsPatternWithin Long text = IsPattern text ⊎ IsLongChoice text

-- a pattern that is too long
abbrev pub IsTooLong : Limits → List ℕ → Type 0
IsTooLong Short text = 256 < length text
IsTooLong Long text =
    (65536 < length text) ⊎ ((256 < length text) × (choice_of text ≡ None))

-- a pattern that `regex` may refuse
abbrev pub IsRefusedWithin : Limits → List ℕ → Type 0
IsRefusedWithin Short text = IsRefusedPattern text
IsRefusedWithin Long text = IsRefusedPattern text × (choice_of text ≡ None)

-- the text of a matcher that takes a pattern is one
abbrev pub IsMadeWithin : Limits → MatcherView → Type 0
IsMadeWithin limits m = takes_pattern m.op ≡ true → IsPatternWithin limits m.text

abbrev pub AreMadeWithin : Limits → List MatcherView → Type 0
AreMadeWithin limits [] = Unit {0}
AreMadeWithin limits (m ∷ ms) = IsMadeWithin limits m × AreMadeWithin limits ms

-- why a matcher can't be made: its pattern is too long, or `regex` refuses it
abbrev pub IsFaultWithin : Limits → MatcherView → SelectorError → Type 0
IsFaultWithin limits m PatternTooLong = (takes_pattern m.op ≡ true) × IsTooLong limits m.text
IsFaultWithin limits m PatternRefused =
    (takes_pattern m.op ≡ true) × IsRefusedWithin limits m.text
IsFaultWithin limits m (Syntax at) = ⊥
IsFaultWithin limits m Empty = ⊥
IsFaultWithin limits m TooMany = ⊥
IsFaultWithin limits m Memory = ⊥

-- the first of the matchers that can't be made can't for this cause
pub record HasFaultWithin (limits : Limits) (ms : List MatcherView) (e : SelectorError)
    : Type 0 where
  pub front : List MatcherView
  pub first : MatcherView
  pub back : List MatcherView
  pub is : ms ≡ front ++ (first ∷ back)
  pub made : AreMadeWithin limits front
  pub fault : IsFaultWithin limits first e

-- a text is a selector of matchers that are neither none nor too many, of which one can't be made
pub record IsFaulty (limits : Limits) (text : List ℕ) (e : SelectorError) : Type 0 where
  pub matchers : List MatcherView
  pub selector : IsSelector text matchers
  pub some : 0 < length matchers
  pub few : length matchers ≤ most_matchers limits
  pub fault : HasFaultWithin limits matchers e

-- a text is a selector of too many matchers
pub record IsOfTooMany (limits : Limits) (text : List ℕ) : Type 0 where
  pub matchers : List MatcherView
  pub selector : IsSelector text matchers
  pub many : most_matchers limits < length matchers

-- a text is no selector
abbrev pub IsUnread : List ℕ → SelectorError → Type 0
IsUnread text (Syntax at) = IsNoSelector text at
IsUnread text Empty = ⊥
IsUnread text TooMany = ⊥
IsUnread text PatternTooLong = ⊥
IsUnread text PatternRefused = ⊥
IsUnread text Memory = ⊥

-- when a text is refused as a selector, for another cause than memory
abbrev pub IsRefusalWithin : Limits → List ℕ → SelectorError → Type 0
IsRefusalWithin limits text (Syntax at) = IsNoSelector text at
IsRefusalWithin limits text Empty = IsSelector text []
IsRefusalWithin limits text TooMany = IsOfTooMany limits text
IsRefusalWithin limits text PatternTooLong = IsFaulty limits text PatternTooLong
IsRefusalWithin limits text PatternRefused = IsFaulty limits text PatternRefused
IsRefusalWithin limits text Memory = ⊥

-- the text is accepted as a selector of these matchers: they are neither none nor too many, and
-- each can be made
pub record IsAcceptedWithin (limits : Limits) (text : List ℕ) (ms : List MatcherView)
    : Type 0 where
  pub selector : IsSelector text ms
  pub some : 0 < length ms
  pub few : length ms ≤ most_matchers limits
  pub made : AreMadeWithin limits ms
