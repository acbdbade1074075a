use Rattle.std.proofs.Common.{◌≡◌, drop}
use Rattle.store_folder.specs.Kinds.{has_cut}
use Rattle.store_folder.proofs.event_kinds.has_cut.Given as goal

-- one of the events is a cut if one of those that are left is
abbrev pub invariant-loop-event : goal.invariant-loop-event
invariant-loop-event l = has_cut l.events ≡ has_cut (drop l.event-index l.events)
