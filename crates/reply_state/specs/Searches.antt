-- The state of which a reply is right.
use Rattle.std.specs.Prelude.{◌≡◌, ◌≤◌, ℕ, List, length, map}
use Rattle.std.specs.List.{AllZip}
use Rattle.labels.specs.Parts.{Part}
use Rattle.matchers.specs.Views.{QueryView}
use Rattle.reply_reader.specs.declared.reply.Reply.{Reply}
use Rattle.reply_reader.specs.declared.reply.ToldPart.{ToldPart}
use Rattle.auditor.specs.Judgements.{name_of}
use Rattle.whole_audit.specs.PartNames.{part_names}
use Rattle.whole_audit.specs.Wholes.{AreRightOf, IsRightOf, IsWhole}
use Rattle.kept_walk.specs.Kept.{Event}
use Rattle.kept_world.specs.Changes.{LeadsTo, IsRefusedAt}
use Rattle.kept_world.specs.States.{State, numbered, shown}
use Rattle.state_search.specs.declared.search.Search.{Search}
use Rattle.state_search.specs.declared.search.Search.TheVariants.{Found, Nowhere, Refused}

-- something is said of so many blocks, in order, and of a head; and what is said of these is right
pub record AreRightBlocks (query : QueryView) (blocks : List Part) (parts told : List ToldPart)
    : Type 0 where
  pub named : map name_of parts ≡ part_names (length blocks)
  pub each : AllZip (IsRightOf query) blocks told

-- all that is said of parts is right of a state
abbrev pub AreRightIn : QueryView → List ToldPart → State → Type 0
AreRightIn query parts s = AreRightOf query s.blocks (numbered 1 (shown s.head)) parts

-- a reply is right of a state, whole
abbrev pub IsWholeIn : QueryView → Reply → State → Type 0
IsWholeIn query reply s = IsWhole query s.blocks (numbered 1 (shown s.head)) reply

-- What a search for a state says. It found one that is so, after this many of the events, and not
-- before `since`; or no state is so, after `since` events or more; or the event at a place, from 0,
-- is the first that the state before it refuses.
abbrev pub Searches : (State → Type 0) → ℕ → State → List Event → Search → Type 0
Searches is_so since first events (Found at) =
    (since ≤ at) × (at ≤ length events) × ((s : State) × LeadsTo first events at s × is_so s)
Searches is_so since first events Nowhere =
    (n : ℕ) (s : State) → since ≤ n → n ≤ length events → LeadsTo first events n s → is_so s → ⊥
Searches is_so since first events (Refused i) = IsRefusedAt first events i
