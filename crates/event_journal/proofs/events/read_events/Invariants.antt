use Rattle.std.proofs.Common.{take}
use Rattle.journal.specs.Contents.{contents_in}
use Rattle.event_journal.specs.Naming.{Spell}
use Rattle.event_journal.proofs.events.read_events.Given as goal

abbrev pub invariant-loop-content : goal.invariant-loop-content
invariant-loop-content l =
    Spell (contents_in (take l.content-index l.contents)) l.events.items l.names
