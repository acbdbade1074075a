-- Events that are kept together.
use Rattle.std.specs.Prelude.{ℕ, List, map}
use Rattle.std.specs.List.{AllByRecursion}
use Rattle.head.specs.Batches.{IsEvent}
use Rattle.head.specs.Worlds.{Event}
use Rattle.event_text.specs.Spelling.{event_text, HasSpelling}
use Rattle.journal.specs.Group.{AreRecords}

-- an event that has a text, within its bounds
pub record IsKept (e : Event) : Type 0 where
  pub spelled : HasSpelling e
  pub bounded : IsEvent e

-- the contents that events are spelled in
abbrev pub texts_of : List Event → List (List ℕ)
texts_of events = map event_text events

-- the bytes are the records of the texts of these events
pub record SpellTogether (records : List ℕ) (events : List Event) : Type 0 where
  pub are : AreRecords (texts_of events) records
  pub each : AllByRecursion IsKept events
