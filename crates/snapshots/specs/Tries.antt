-- What is to be published, as an entry of a list of events.
use Rattle.head.specs.Worlds.{Event}
use Rattle.snapshots.specs.declared.entry.Entry.{Entry}
use Rattle.snapshots.specs.declared.entry.Tried.{Tried}

-- the entry of a change that is tried, by the event that it is
abbrev pub entry_of : {C : Type 0} → (C → Event) → Tried C → Entry
entry_of event_of tried = record { event = event_of tried.change.now; seat = tried.seat }
