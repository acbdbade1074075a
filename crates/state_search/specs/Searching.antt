-- The state of which a reply is right.
use Rattle.std.specs.Prelude.{◌≡◌, ◌+◌, ◌≤◌, ℕ, List, length, Option, None, Some}
use Rattle.labels.specs.Parts.{Part}
use Rattle.kept_walk.specs.Kept.{Event, batch, deletion, cut}
use Rattle.kept_world.specs.States.{State, numbered, shown}
use Rattle.kept_world.specs.Births.{came_by}
use Rattle.kept_world.specs.Changes.{LeadsTo, IsRefusedAt}
use Rattle.state_search.specs.declared.search.Progress.{Progress}
use Rattle.state_search.specs.declared.search.Search.{Search}
use Rattle.state_search.specs.declared.search.Search.TheVariants.{Found, Nowhere, Refused}

-- by what is right of blocks and what is sound of a head: right of a state
abbrev pub IsRightBy : (List Part → Type 0) → (Part → Type 0) → State → Type 0
IsRightBy right sound s = right s.blocks × sound (numbered 1 (shown s.head))

-- the state after this many events, not before `since`, is one of which it is right
abbrev pub IsRightState : (List Part → Type 0) → (Part → Type 0) → ℕ → State → List Event → ℕ
    → Type 0
IsRightState right sound since first events at =
    (since ≤ at) × (at ≤ length events)
    × ((s : State) × LeadsTo first events at s × IsRightBy right sound s)

-- no state is, neither after `since` events nor after more
abbrev pub IsNoState : (List Part → Type 0) → (Part → Type 0) → ℕ → State → List Event → Type 0
IsNoState right sound since first events =
    (n : ℕ) (s : State) → since ≤ n → n ≤ length events → LeadsTo first events n s
    → IsRightBy right sound s → ⊥

-- what a search says
abbrev pub IsSearch : (List Part → Type 0) → (Part → Type 0) → ℕ → State → List Event → Search
    → Type 0
IsSearch right sound since first events (Found at) = IsRightState right sound since first events at
IsSearch right sound since first events Nowhere = IsNoState right sound since first events
IsSearch right sound since first events (Refused i) = IsRefusedAt first events i

-- what is found of one run, which begins after `from` events and of which this is the last state:
-- a place of it, not before `since`, or that there is none
abbrev pub IsOfRun : (List Part → Type 0) → (Part → Type 0) → ℕ → ℕ → State → Option ℕ → Type 0
IsOfRun right sound since from last None =
    (p : ℕ) → from ≤ p → since ≤ p → p ≤ last.number → right last.blocks
    → sound (numbered 1 (came_by p last.head)) → ⊥
IsOfRun right sound since from last (Some at) =
    (from ≤ at) × (since ≤ at) × (at ≤ last.number) × right last.blocks
    × sound (numbered 1 (came_by at last.head))

-- what is found of a run, or else what was found before
abbrev pub newer : Option ℕ → Option ℕ → Option ℕ
newer None before = before
newer (Some at) before = Some at

-- what is found once a run has ended
abbrev pub IsLook : (List Part → Type 0) → (Part → Type 0) → ℕ → State → Progress → Option ℕ
    → Type 0
IsLook right sound since last progress found =
    (of_run : Option ℕ) × IsOfRun right sound since progress.from last of_run
    × (found ≡ newer of_run progress.found)

-- before a batch nothing is looked at; before another event, which ends the run, the run is
abbrev pub IsBefore : (List Part → Type 0) → (Part → Type 0) → ℕ → State → Event → Progress
    → Progress → Type 0
IsBefore right sound since last (batch runs) old new = new ≡ old
IsBefore right sound since last (deletion ms from to) old new =
    (new.from ≡ last.number + 1) × IsLook right sound since last old new.found
IsBefore right sound since last (cut t) old new =
    (new.from ≡ last.number + 1) × IsLook right sound since last old new.found
