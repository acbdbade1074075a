-- The kinds of events.
use Rattle.head.specs.declared.event.Kind.{Kind}
use Rattle.head.specs.declared.event.Kind.TheVariants.{Batch, Deletion, Cut}
use Rattle.head.specs.declared.event.EventView.{EventView}
use Rattle.head.specs.declared.event.EventView.TheVariants as views
use Rattle.head.specs.Worlds.{Event, batch, deletion, cut}

abbrev pub change_of : Kind → Event
change_of (Batch samples) = batch samples.items
change_of (Deletion matchers from to) = deletion matchers.items from to
change_of (Cut at) = cut at

-- the event that is lent
abbrev pub change_seen : EventView → Event
change_seen (views.Batch samples) = batch samples.now
change_seen (views.Deletion matchers from to) = deletion matchers.now from to
change_seen (views.Cut at) = cut at
