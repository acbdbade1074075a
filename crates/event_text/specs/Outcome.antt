-- What a call answered, against what reading gives.
use Rattle.std.specs.Prelude.{◌≡◌, ◌⊎◌, ◌<◌, ⊤, Bool, true, false, List, length, Result, Ok, Err}
use Rattle.std.specs.List.{Contains}
use Rattle.labels.specs.Names.{is_name}
use Rattle.matchers.specs.Patterns.{IsRefusedPattern}
use Rattle.matchers.specs.Satisfies.{takes_pattern}
use Rattle.matchers.specs.Views.{MatcherView}
use Rattle.head.specs.Worlds.{Event, batch, deletion, cut, joined}
use Rattle.wire.specs.Outcome as outcome
use Rattle.event_text.specs.declared.error.TextError.{TextError}
use Rattle.event_text.specs.declared.error.TextError.TheVariants.{Memory}
use Rattle.event_text.specs.declared.error.EventError.{EventError}
use Rattle.event_text.specs.declared.error.EventError.TheVariants as errors

-- whether an error says nothing of the bytes
abbrev pub is_memory : TextError → Bool
is_memory Memory = true
is_memory e = false

-- what a function returned, seen by view, is what reading gives, unless memory ran out
abbrev pub Gives : {X Y : Type 0} → (X → Y) → Result X TextError → Result Y TextError → Type 0
Gives view result read = outcome.Gives is_memory view result read

-- `Matcher::new` may refuse it
abbrev pub MayBeRefused : MatcherView → Type 0
MayBeRefused m =
    (is_name m.name ≡ false)
    ⊎ ((takes_pattern m.op ≡ true) × ((256 < length m.text) ⊎ IsRefusedPattern m.text))

abbrev pub HasRefused : List MatcherView → Type 0
HasRefused ms = (m : MatcherView) × Contains ms m × MayBeRefused m

-- a deletion, one of whose matchers `Matcher::new` may refuse
abbrev pub HasRefusedMatcher : Event → Type 0
HasRefusedMatcher (batch xs) = ⊥
HasRefusedMatcher (deletion ms from to) = HasRefused ms
HasRefusedMatcher (cut t) = ⊥
HasRefusedMatcher (joined at count made) = ⊥

-- where `Matcher::new` refused a matcher
abbrev pub OnMatcherRefused : {X : Type 0} → Result X EventError → Type 0 → Type 0
OnMatcherRefused (Ok x) P = ⊤
OnMatcherRefused (Err (errors.Text f)) P = f ≡ Memory
OnMatcherRefused (Err (errors.Matcher f)) P = P

-- the answer is this event; or memory ran out, or `Matcher::new` refused one of its matchers
abbrev pub GivesEvent : Event → Result Event EventError → Type 0
GivesEvent e (Ok made) = made ≡ e
GivesEvent e (Err (errors.Text f)) = f ≡ Memory
GivesEvent e (Err (errors.Matcher f)) = HasRefusedMatcher e

-- the answer by what reading gives
abbrev pub FollowsFrom : Result Event TextError → Result Event EventError → Type 0
FollowsFrom (Ok e) result = GivesEvent e result
FollowsFrom (Err f) (Ok made) = ⊥
FollowsFrom (Err f) (Err (errors.Text g)) = (g ≡ f) ⊎ (g ≡ Memory)
FollowsFrom (Err f) (Err (errors.Matcher g)) = ⊥
