-- What `Selector::parse` answers.
use Rattle.std.specs.Prelude.{◌≡◌, ℕ, ◌<◌, ◌≤◌, true, List, [], ◌∷◌, ◌++◌, length, ⊤}
use Rattle.labels.specs.Names.{is_name}
use Rattle.matchers.specs.declared.error.SelectorError.{SelectorError}
use Rattle.matchers.specs.declared.error.SelectorError.TheVariants.{Syntax, Empty, TooMany}
use Rattle.matchers.specs.declared.error.SelectorError.TheVariants.{PatternTooLong, PatternRefused}
use Rattle.matchers.specs.declared.error.SelectorError.TheVariants.{Memory}
use Rattle.matchers.specs.Grammar.{IsSelector, IsNoSelector}
use Rattle.matchers.specs.Patterns.{IsPattern, IsRefusedPattern}
use Rattle.matchers.specs.Satisfies.{takes_pattern}
use Rattle.matchers.specs.Views.{MatcherView}

-- each has the name of a label
abbrev pub AreNamed : List MatcherView → Type 0
AreNamed [] = Unit {0}
AreNamed (m ∷ ms) = (is_name m.name ≡ true) × AreNamed ms

-- the text of a matcher that takes a pattern is one
pub record IsMade (m : MatcherView) : Type 0 where
  pub pattern : takes_pattern m.op ≡ true → IsPattern m.text

abbrev pub AreMade : List MatcherView → Type 0
AreMade [] = Unit {0}
AreMade (m ∷ ms) = IsMade m × AreMade ms

-- why a matcher can't be made: its pattern is too long, or `regex` refuses it
pub data IsFaultOf (m : MatcherView) : SelectorError → Type 0 where
  long : takes_pattern m.op ≡ true → 256 < length m.text → IsFaultOf m PatternTooLong
  refused : takes_pattern m.op ≡ true → IsRefusedPattern m.text → IsFaultOf m PatternRefused

-- the first of the matchers that can't be made can't for this cause
pub record HasFault (ms : List MatcherView) (e : SelectorError) : Type 0 where
  pub front : List MatcherView
  pub first : MatcherView
  pub back : List MatcherView
  pub is : ms ≡ front ++ (first ∷ back)
  pub made : AreMade front
  pub fault : IsFaultOf first e

-- when a text is refused as a selector, for another cause than memory: it is none; or one without
-- matchers; or one with more than 16; or one with 1 to 16, of which the first that can't be made
-- can't for this cause
pub data IsTextRefusal (text : List ℕ) : SelectorError → Type 0 where
  none : (at : ℕ) → IsNoSelector text at → IsTextRefusal text (Syntax at)
  empty : IsSelector text [] → IsTextRefusal text Empty
  many : (ms : List MatcherView) → IsSelector text ms → 16 < length ms
      → IsTextRefusal text TooMany
  faulty : (ms : List MatcherView) (e : SelectorError) → IsSelector text ms → 0 < length ms
      → length ms ≤ 16 → HasFault ms e → IsTextRefusal text e

-- memory may fail at any time
abbrev pub OrMemory : (SelectorError → Type 0) → SelectorError → Type 0
OrMemory cause Memory = ⊤
OrMemory cause e = cause e

-- when each refusal comes
abbrev pub RefusedBy : List ℕ → SelectorError → Type 0
RefusedBy text e = OrMemory (IsTextRefusal text) e

-- the text is accepted as a selector of these matchers: they are 1 to 16, and each can be made
pub record IsAccepted (text : List ℕ) (ms : List MatcherView) : Type 0 where
  pub selector : IsSelector text ms
  pub some : 0 < length ms
  pub few : length ms ≤ 16
  pub made : AreMade ms
