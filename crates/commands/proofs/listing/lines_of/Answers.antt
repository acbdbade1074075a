use Rattle.std.proofs.Common.{arith}
use Rattle.commands.proofs.Listings.{lines_next}
use Rattle.commands.proofs.listing.lines_of.Goals as goal

pub loop-event-preserved : goal.loop-event-preserved
loop-event-preserved c =
    let made = c.in_ok-append_event.ensures in (
      lines_next c.args.events.now c.loop-event.event-index c.loop-event.number c.event-item.result
          c.loop-event.lines.items c.append_event.new.out.items made.0 c.loop-event-test.true
          c.event-item.is c.loop-event.invariant.1 c.loop-event.invariant.0 made.1 made.2,
      omega (arith, c.loop-event.invariant.1),
    )
