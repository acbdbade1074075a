-- Which events were asked for.
use Rattle.std.specs.Prelude.{ℕ, List, [], ◌∷◌, ◌++◌}
use Rattle.head.specs.Joins.{IsNoJoin}
use Rattle.head.specs.Worlds.{Event}
use Rattle.snapshots.specs.declared.entry.Entry.{Entry}
use Rattle.snapshots.specs.Seats.{count_of}

-- Each of the later entries was asked for, under the number of its seat and as the event that it is
-- there: behind as many of this seat as stand before it.
abbrev pub AskedBehind : (Event → ℕ → ℕ → Type 0) → List Entry → List Entry → Type 0
AskedBehind asked before [] = Unit {0}
AskedBehind asked before (e ∷ later) =
    asked e.event e.seat (count_of e.seat before) × AskedBehind asked (before ++ e ∷ []) later

-- Each event of this list was asked for, as that one of its seat. So none is there that nobody
-- asked for, and none more often than it was asked for.
pub record AreAsked (asked : Event → ℕ → ℕ → Type 0) (entries : List Entry) : Type 0 where
  pub each : AskedBehind asked [] entries

-- no join may be asked for
abbrev pub AsksNoJoin : (Event → ℕ → ℕ → Type 0) → Type 0
AsksNoJoin asked = (event : Event) (seat place : ℕ) → asked event seat place → IsNoJoin event
