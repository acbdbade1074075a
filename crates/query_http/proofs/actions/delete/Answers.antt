use Rattle.std.proofs.Common.{ap}
use Rattle.head.specs.Worlds.{deletion}
use Rattle.snapshots.specs.Keeping.{AreHeld}
use Rattle.query_http.specs.Serving.{worker}
use Rattle.snapshots.proofs.Held.{seat_held}
use Rattle.query_http.proofs.Replying.{store_refused, event_refused}
use Rattle.query_http.proofs.actions.delete.Goals as goal

pub returns-in-Err-clause-reply : goal.returns-in-Err-clause-reply
returns-in-Err-clause-reply g c =
    let event = deletion c.args.asked.0.items c.args.asked.1 c.args.asked.2 in
    event_refused g.J.Naming.opening g.K.Keeper.idle (AreHeld g.K.Keeper.holds g.K.Keeper.stays g.J.Naming.before)
    event (worker c.args.pass.now c.args.seat.now) _
    c.in-Err.error c.event_refusal_reply.result
    (ap (worker _) c.in-Err.ensures.kept.1)
    (store_refused g.J.Naming.opening (AreHeld g.K.Keeper.holds g.K.Keeper.stays g.J.Naming.before) c.args.seat.now
    event c.in-Err.error c.in-Err.ensures.refused)
    c.in-Err.ensures.journal
    c.event_refusal_reply.ensures.no_memory c.event_refusal_reply.ensures.unkept
    c.event_refusal_reply.ensures.number c.event_refusal_reply.ensures.spelled

pub returns-in-Ok-clause-held : goal.returns-in-Ok-clause-held
returns-in-Ok-clause-held g c =
    seat_held g.K.Keeper.holds g.K.Keeper.stays g.J.Naming.before c.args.seat.now _ c.in-Ok.receipt
    c.in-Ok.ensures.counted c.in-Ok.ensures.held
