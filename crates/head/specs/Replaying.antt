-- Which event of several is refused, and what several leave of the blocks.
use Rattle.std.specs.Prelude.{◌≡◌, ◌++◌, ℕ, List, Ok, Some, slice_get, take}
use Rattle.std.specs.List.{AllByRecursion}
use Rattle.head.specs.Heads.{BlockPart}
use Rattle.head.specs.Outcomes.{IsStepRefusal}
use Rattle.head.specs.Worlds.{Event, World, batch, cut, deletion, joined, replayed, stepped}
use Rattle.head.specs.declared.error.CommitError.{CommitError}

-- the events before this place are accepted, and the step of the event there is refused so, or
-- there was no memory for it
pub record RefusesAt (w : World) (events : List Event) (at : ℕ) (error : CommitError) : Type 0 where
  pub world : World
  pub before : replayed w (take at events) ≡ Ok world
  pub event : Event
  pub there : slice_get events at ≡ Some event
  pub refused : IsStepRefusal error (stepped world event)

-- an event that is no deletion: it takes nothing from a block
abbrev pub IsNoDeletion : Event → Type 0
IsNoDeletion (batch xs) = Unit {0}
IsNoDeletion (deletion ms from to) = ⊥
IsNoDeletion (cut t) = Unit {0}
IsNoDeletion (joined at count made) = ⊥

-- none of these events is a deletion
abbrev pub DeleteNothing : List Event → Type 0
DeleteNothing events = AllByRecursion IsNoDeletion events

-- these blocks are the first of all
abbrev pub StandFirst : List BlockPart → List BlockPart → Type 0
StandFirst blocks all = (more : List BlockPart) × (all ≡ blocks ++ more)
