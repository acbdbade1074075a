-- Which kinds of events are among some.
use Rattle.std.specs.Prelude.{Bool, true, false, List}
use Rattle.std.specs.List.{list_any}
use Rattle.head.specs.Worlds.{Event, batch, deletion, cut, joined}

abbrev pub is_cut : Event → Bool
is_cut (batch xs) = false
is_cut (deletion ms from to) = false
is_cut (cut t) = true
is_cut (joined at count made) = false

-- whether one of the events is a cut
abbrev pub has_cut : List Event → Bool
has_cut events = list_any is_cut events
