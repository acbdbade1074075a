use Rattle.std.proofs.Common.{arith}
use Rattle.kept_walk.specs.Contents.{SpellsEvent}
use Rattle.kept_walk.specs.Parts.{event_in}
use Rattle.kept_walk.specs.Reading.{event_of}
use Rattle.kept_walk.proofs.Contents.{finds, event_found, event_read}
use Rattle.kept_walk.proofs.events.read_event.Goals as goal

pub returns : goal.returns
returns c =
    finds event_in (SpellsEvent c.args.content.now) c.event_of.result (event_of c.args.content.now) c.event_of.ensures
    (λ a. event_found c.args.content.now a (λ i. omega (arith, c.type_inv.content i)))
    (event_read c.args.content.now)
