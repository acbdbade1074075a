-- What is said of a reply over a kept store.
use Rattle.std.specs.Prelude.{◌≡◌, ◌-◌, ℕ, Bool, false, List, length, Option, None, Some, slice_get}
use Rattle.labels.specs.Parts.{Part}
use Rattle.matchers.specs.Views.{QueryView}
use Rattle.reply_reader.specs.declared.reply.Reply.{Reply}
use Rattle.whole_audit.specs.Grading.{is_right}
use Rattle.whole_audit.specs.StateLines.{AreStateLines}
use Rattle.whole_audit.specs.declared.lines.StateLine.{StateLine}
use Rattle.kept_walk.specs.Kept.{Event, Series, Store}
use Rattle.kept_world.specs.Births.{AreBornBy}
use Rattle.kept_world.specs.Changes.{IsRefusedAt, LeadsTo}
use Rattle.kept_world.specs.Sound.{IsSoundHead, started}
use Rattle.kept_world.specs.States.{State, numbered, shown, state_after}
use Rattle.reply_state.specs.Searches.{AreRightIn, IsWholeIn, Searches}
use Rattle.state_search.specs.declared.search.Search.TheVariants as search
use Rattle.store_audit.specs.declared.judging.Beginning.{Beginning}
use Rattle.store_audit.specs.declared.judging.Reached.{Reached}
use Rattle.store_audit.specs.declared.judging.Reached.TheVariants.{Last, NoHead, NoEvent}
use Rattle.store_audit.specs.declared.judging.StateReport.{StateReport}
use Rattle.store_audit.specs.declared.judging.StoreJudgement.{StoreJudgement}
use Rattle.store_audit.specs.declared.judging.StoreJudgement.TheVariants.{Told, BadHead, BadEvent}

-- the state that the head of a store says, with its blocks
abbrev pub first_of : Store → List Part → State
first_of store blocks = started store.floor store.head blocks

abbrev pub first_in : Beginning → State
first_in b = started b.floor b.head.items b.tables.items

-- the lines of the reply over the state that this many events lead to
abbrev pub AreLinesAt : QueryView → Reply → State → List Event → ℕ → List StateLine → Type 0
AreLinesAt query reply first events n lines =
    (s : State) × LeadsTo first events n s
    × AreStateLines s.blocks (numbered 1 (shown s.head)) query reply lines

-- the newest state of which all that is said of parts is right, if there is one: the lines are of
-- that state, and else of the last
abbrev pub IsFound : QueryView → Reply → ℕ → State → List Event → Option ℕ → ℕ → Type 0
IsFound query reply since first events (Some at) told =
    (told ≡ at) × Searches (AreRightIn query reply.parts.items) since first events (search.Found at)
IsFound query reply since first events None told =
    (told ≡ length events)
    × Searches (AreRightIn query reply.parts.items) since first events search.Nowhere

-- a state before `since`, if none was found from there on, of which the whole reply is right
abbrev pub IsEarlier : QueryView → Reply → State → List Event → Option ℕ → Option ℕ → Type 0
IsEarlier query reply first events (Some at) earlier = earlier ≡ None
IsEarlier query reply first events None (Some place) =
    Searches (IsWholeIn query reply) 0 first events (search.Found place)
IsEarlier query reply first events None None =
    Searches (IsWholeIn query reply) 0 first events search.Nowhere

pub record IsReport (query : QueryView) (reply : Reply) (since : ℕ) (first : State)
    (events : List Event) (report : StateReport) : Type 0 where
  pub found : IsFound query reply since first events report.found report.told
  pub earlier : IsEarlier query reply first events report.found report.earlier
  pub lines : AreLinesAt query reply first events report.told report.lines.items
  pub counted : report.events ≡ length events

-- what is said over the states from this one on; or its head is none that a store has, or an event
-- is the first that the state before it refuses
abbrev pub IsJudgementOf : QueryView → Reply → ℕ → List Series → State → List Event
    → StoreJudgement → Type 0
IsJudgementOf query reply since head first events (Told report) =
    IsReport query reply since first events report
IsJudgementOf query reply since head first events BadHead = IsSoundHead head → ⊥
IsJudgementOf query reply since head first events (BadEvent at) = IsRefusedAt first events at

-- what is said over a store with these blocks
abbrev pub IsJudgement : QueryView → Reply → ℕ → Store → List Part → StoreJudgement → Type 0
IsJudgement query reply since store blocks judgement =
    IsJudgementOf query reply since store.head (first_of store blocks) store.events judgement

-- WHAT THE CODE KNOWS ON THE WAY

-- where events lead to: the last state, whose head has what they brought; or no store has the head,
-- or an event is the first that the state before it refuses
abbrev pub IsReached : List Series → State → List Event → Reached → Type 0
IsReached head first events (Last s) =
    (state_after events first ≡ Some s) × AreBornBy s.number s.head
IsReached head first events NoHead = IsSoundHead head → ⊥
IsReached head first events (NoEvent at) = IsRefusedAt first events at

-- a line that names no flaw
abbrev pub is_right_line : Option StateLine → Bool
is_right_line None = false
is_right_line (Some line) = is_right line.grade

-- the last line, that of the rows, names no flaw
abbrev pub has_right_rows : List StateLine → Bool
has_right_rows lines = is_right_line (slice_get lines (length lines - 1))

-- where two searches found states of which all that is said of parts is right: one from `since`
-- on, and one, if the first found none, from the beginning on
abbrev pub ArePlaces : QueryView → Reply → ℕ → State → List Event → Option ℕ → Option ℕ → Type 0
ArePlaces query reply since first events (Some at) earlier =
    (earlier ≡ None)
    × Searches (AreRightIn query reply.parts.items) since first events (search.Found at)
ArePlaces query reply since first events None (Some place) =
    Searches (AreRightIn query reply.parts.items) since first events search.Nowhere
    × Searches (AreRightIn query reply.parts.items) 0 first events (search.Found place)
ArePlaces query reply since first events None None =
    Searches (AreRightIn query reply.parts.items) since first events search.Nowhere
    × Searches (AreRightIn query reply.parts.items) 0 first events search.Nowhere
