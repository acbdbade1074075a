-- Events as code has them, and the states that they lead to.
use Rattle.std.specs.Prelude.{◌≡◌, ◌+◌, ◌<◌, ℕ, List, map, take, length, Some, None}
use Rattle.kept_walk.specs.Kept.{Event, event_of}
use Rattle.kept_walk.specs.declared.journal_state.Change.{Change}
use Rattle.kept_world.specs.States.{State, state_after}
use Rattle.kept_world.specs.declared.world.Replay.{Replay}
use Rattle.kept_world.specs.declared.world.Replay.TheVariants.{Last, Refused}

-- the events of changes
abbrev pub events_of : List Change → List Event
events_of changes = map event_of changes

-- the first events, as many as n, lead to this state
abbrev pub LeadsTo : State → List Event → ℕ → State → Type 0
LeadsTo first events n s = state_after (take n events) first ≡ Some s

-- the event at this place is the first that is refused
pub record IsRefusedAt (first : State) (events : List Event) (i : ℕ) : Type 0 where
  pub within : i < length events
  pub before : (s : State) × LeadsTo first events i s
  pub refused : state_after (take (i + 1) events) first ≡ None

-- where events lead to, as code says it
abbrev pub IsReplay : State → List Event → Replay → Type 0
IsReplay first events (Last s) = state_after events first ≡ Some s
IsReplay first events (Refused i) = IsRefusedAt first events i
