use Rattle.snapshots.specs.Keeping.{AreHeld}
use Rattle.query_http.specs.Bounds.{is_bounded}
use Rattle.query_http.specs.Serving.{worker}
use Rattle.query_http.proofs.Replying.{barred_idle}
use Rattle.query_http.proofs.engine.serve_one_with.Goals as goal

pub returns-clause-barred : goal.returns-clause-barred
returns-clause-barred g c =
    barred_idle c.args.rules.now g.J.Naming.opening g.K.Keeper.idle (is_bounded c.args.buffers.now)
    (AreHeld g.K.Keeper.holds g.K.Keeper.stays g.J.Naming.before) (g.R.Inlet.input c.args.reader.now)
    (worker c.args.pass.now c.args.seat.now)
    (worker c.serve_next.new.pass c.serve_next.new.seat)
    (g.W.Outlet.output c.args.writer.now) (g.W.Outlet.output c.serve_next.new.writer)
    c.serve_next.result c.serve_next.ensures.serves
