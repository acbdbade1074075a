use Rattle.std.proofs.Common.{◌≡◌, take}
use Rattle.commands.specs.Listing.{AreLines}
use Rattle.commands.proofs.listing.lines_of.Given as goal

-- the lines so far, and how many
abbrev pub invariant-loop-event : goal.invariant-loop-event
invariant-loop-event l =
    AreLines 0 (take l.event-index l.events) l.lines.items × (l.number ≡ l.event-index)
