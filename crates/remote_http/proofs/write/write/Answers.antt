use Rattle.std.proofs.Common.{refl}
use Rattle.head.specs.BatchRows.{batch_of_rows}
use Rattle.remote_http.proofs.Kept.{on_err}
use Rattle.remote_http.proofs.Publishes.{nothing_published}
use Rattle.remote_http.proofs.write.write.Goals as goal

pub returns-then-now-first-clause-front : goal.returns-then-now-first-clause-front
returns-then-now-first-clause-front g c =
    on_err c.refusal_reply.result
    (nothing_published g.J.Naming.opening (batch_of_rows c.args.received.rows.items) _ _ refl)
