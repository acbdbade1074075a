-- What reading contents as events answers.
use Rattle.std.specs.Prelude.{◌≡◌, ◌⊎◌, ℕ, List, [], ◌∷◌, ◌++◌, Result, Ok, Err, length, Vec}
use Rattle.std.specs.declared.alloc.Global.{Global}
use Rattle.head.specs.Worlds.{Event}
use Rattle.event_text.specs.declared.error.TextError.TheVariants.{Memory as NoMemory}
use Rattle.event_text.specs.declared.error.EventError.TheVariants.{Text, Matcher}
use Rattle.event_text.specs.Outcome.{HasRefusedMatcher}
use Rattle.name_table.specs.Names.{Label}
use Rattle.event_journal.specs.declared.error.ContentError.{ContentError}
use Rattle.event_journal.specs.declared.error.ContentError.TheVariants as errors
use Rattle.event_journal.specs.declared.events.Refused.{Refused}
use Rattle.event_journal.specs.Naming.{FollowsBy, Spell}

-- one of these events is a deletion, one of whose matchers `Matcher::new` may refuse
abbrev pub HasRefusedDeletion : List Event → Type 0
HasRefusedDeletion [] = ⊥
HasRefusedDeletion (e ∷ events) = HasRefusedMatcher e ⊎ HasRefusedDeletion events

-- a refusal that can come of the texts of these events: memory's, or that of a deletion's matcher
abbrev pub MayRefuse : List Event → ContentError → Type 0
MayRefuse events (errors.Event (Text f)) = f ≡ NoMemory
MayRefuse events (errors.Event (Matcher f)) = HasRefusedDeletion events
MayRefuse events errors.Number = ⊥
MayRefuse events errors.Named = ⊥

-- the answer is these events, or a refusal that can come of their texts
abbrev pub GivesEvents : List Event → Result (Vec Event Global) Refused → Type 0
GivesEvents events (Ok found) = found.items ≡ events
GivesEvents events (Err refused) = MayRefuse events refused.error

-- the first content that spells no event stands at this place, and is refused so
pub record RefusesAt (contents : List (List ℕ)) (at : ℕ) (error : ContentError) : Type 0 where
  pub before : List (List ℕ)
  pub content : List ℕ
  pub after : List (List ℕ)
  pub events : List Event
  pub names : List Label
  pub earlier : Spell before events names
  pub parts : contents ≡ before ++ content ∷ after
  pub place : at ≡ length before
  pub refused : FollowsBy names content (Err error)
