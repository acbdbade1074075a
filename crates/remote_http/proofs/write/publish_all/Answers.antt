use Rattle.std.proofs.Common.{refl}
use Rattle.head.specs.BatchRows.{batch_of_rows}
use Rattle.remote_http.specs.Filling.{batches_of}
use Rattle.remote_http.specs.Workers.{worker}
use Rattle.remote_http.proofs.Kept.{kept_replied, on_err, unkept_replied}
use Rattle.remote_http.proofs.Publishes.{front_published, nothing_published, whole_published}
use Rattle.remote_http.proofs.write.publish_all.Goals as goal

pub returns-in_err-done-clause-front : goal.returns-in_err-done-clause-front
returns-in_err-done-clause-front g c =
    on_err c.from_residual.result
    (nothing_published g.J.Naming.opening (batch_of_rows c.args.received.rows.items) _ _ refl)

pub returns-in_err-parts-clause-front : goal.returns-in_err-parts-clause-front
returns-in_err-parts-clause-front g c =
    on_err c.from_residual-in_err-parts.result
    (nothing_published g.J.Naming.opening (batch_of_rows c.args.received.rows.items) _ _ refl)

pub returns-in-Ok-clause-reply : goal.returns-in-Ok-clause-reply
returns-in-Ok-clause-reply g c =
    kept_replied g.J.Naming.opening g.K.Keeper.idle c.args.received (worker c.args.pass.now c.args.seat.now)
    (worker c.publish.new.pass c.publish.new.seat) c.kept_reply.result (batches_of c.in_ok-parts.parts.items) c.in-Ok.more
    c.in_ok-parts.ensures c.in-Ok.ensures.all c.kept_reply.ensures.number c.kept_reply.ensures.spelled

pub returns-in-Ok-clause-front : goal.returns-in-Ok-clause-front
returns-in-Ok-clause-front g c =
    on_err c.kept_reply.result
    (whole_published g.J.Naming.opening (batch_of_rows c.args.received.rows.items) (batches_of c.in_ok-parts.parts.items)
    (worker c.args.pass.now c.args.seat.now) (worker c.publish.new.pass c.publish.new.seat) c.in-Ok.more
    c.in_ok-parts.ensures c.in-Ok.ensures.all)

pub returns-in-Err-clause-reply : goal.returns-in-Err-clause-reply
returns-in-Err-clause-reply g c =
    unkept_replied g.J.Naming.opening g.K.Keeper.idle c.args.received (worker c.args.pass.now c.args.seat.now)
    (worker c.publish.new.pass c.publish.new.seat) c.unkept_reply.result c.in-Err.error
    (front_published g.J.Naming.opening (batch_of_rows c.args.received.rows.items) (batches_of c.in_ok-parts.parts.items)
    (worker c.args.pass.now c.args.seat.now) (worker c.publish.new.pass c.publish.new.seat) c.in_ok-parts.ensures
    c.in-Err.ensures.first)
    c.in-Err.ensures.refused c.in-Err.ensures.journal c.unkept_reply.ensures.no_memory c.unkept_reply.ensures.refused

pub returns-in-Err-clause-front : goal.returns-in-Err-clause-front
returns-in-Err-clause-front g c =
    on_err c.unkept_reply.result
    (front_published g.J.Naming.opening (batch_of_rows c.args.received.rows.items) (batches_of c.in_ok-parts.parts.items)
    (worker c.args.pass.now c.args.seat.now) (worker c.publish.new.pass c.publish.new.seat) c.in_ok-parts.ensures
    c.in-Err.ensures.first)
