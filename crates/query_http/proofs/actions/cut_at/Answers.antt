use Rattle.std.proofs.Common.{ap, w64}
use Rattle.std.proofs.lemmas.Int.{to_z-of_z}
use Rattle.head.specs.Worlds.{cut}
use Rattle.snapshots.specs.Keeping.{AreHeld}
use Rattle.query_http.specs.Serving.{worker}
use Rattle.snapshots.proofs.Held.{seat_held}
use Rattle.query_http.proofs.Replying.{receipt_refused, event_refused}
use Rattle.query_http.proofs.actions.cut_at.Goals as goal

pub returns-in-Err-clause-reply : goal.returns-in-Err-clause-reply
returns-in-Err-clause-reply g c =
    event_refused g.J.Naming.opening g.K.Keeper.idle (AreHeld g.K.Keeper.holds g.K.Keeper.stays g.J.Naming.before)
    (cut c.args.at) (worker c.args.pass.now c.args.seat.now) _
    c.in-Err.refused.error c.event_refusal_reply.result
    (ap (worker _) c.in-Err.ensures.kept)
    (receipt_refused g.J.Naming.opening (AreHeld g.K.Keeper.holds g.K.Keeper.stays g.J.Naming.before) c.args.seat.now
    (cut c.args.at) c.in-Err.refused.error c.in-Err.refused.met
    (rw (to_z-of_z w64 c.args.at c.ranges.at) at c.in-Err.ensures.met) c.in-Err.ensures.known)
    c.in-Err.ensures.journal
    c.event_refusal_reply.ensures.no_memory c.event_refusal_reply.ensures.unkept
    c.event_refusal_reply.ensures.number c.event_refusal_reply.ensures.spelled

pub returns-in-Ok-clause-held : goal.returns-in-Ok-clause-held
returns-in-Ok-clause-held g c =
    seat_held g.K.Keeper.holds g.K.Keeper.stays g.J.Naming.before c.args.seat.now _ c.in-Ok.receipt
    c.in-Ok.ensures.counted c.in-Ok.ensures.held
