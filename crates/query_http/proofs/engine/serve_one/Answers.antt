use Rattle.std.specs.Prelude.{false}
use Rattle.snapshots.specs.Keeping.{AreHeld}
use Rattle.query_http.specs.Serving.{worker}
use Rattle.query_http.proofs.Replying.{served_unruled}
use Rattle.query_http.proofs.engine.serve_one.Goals as goal

pub returns-clause-serves : goal.returns-clause-serves
returns-clause-serves g c =
    served_unruled c.none.result g.J.Naming.opening g.K.Keeper.idle false
    (AreHeld g.K.Keeper.holds g.K.Keeper.stays g.J.Naming.before) (g.R.Inlet.input c.args.reader.now)
    (worker c.args.pass.now c.args.seat.now)
    (worker c.serve_one_with.new.pass c.serve_one_with.new.seat)
    (g.W.Outlet.output c.args.writer.now) (g.W.Outlet.output c.serve_one_with.new.writer)
    c.serve_one_with.result c.none.ensures
    (rw c.new-buffers.ensures.room at c.serve_one_with.ensures.serves)
