use Rattle.std.proofs.Common.{List, [], ◌∷◌, Option, ℕ, inl, refl, sym, subst, ◌∙◌}
use Rattle.snapshots.proofs.Held.{publishes_more}
use Rattle.snapshots.specs.Keeping.{AreHeld}
use Rattle.query_http.specs.Bounds.{is_bounded}
use Rattle.query_http.specs.Serving.{worker}
use Rattle.server.specs.Sessions.{Session, Ending, IsServed, Arrives, AreAdded}
use Rattle.server.proofs.Farther.{none_farther, farther_more, served_farther}
use Rattle.server.proofs.Sequences.{works_none, works_more}
use Rattle.server.proofs.worker.work.Goals as goal

pub loop-done-init : goal.loop-done-init
loop-done-init g c =
    let before = worker c.args.pass.now c.args.seat.now in (
      works_none c.args.rules.now g.J.Naming.opening g.K.Keeper.idle (is_bounded c.args.buffers.now)
          (AreHeld g.K.Keeper.holds g.K.Keeper.stays g.J.Naming.before) before
          (g.A.Connections.coming c.args.connections.now)
          (g.A.Connections.past c.args.connections.now),
      none_farther before,
      inl refl,
      refl,
    )

pub loop-done-preserved : goal.loop-done-preserved
loop-done-preserved g c =
    let before = worker c.args.pass.now c.args.seat.now in
    let between = worker c.loop-done.pass c.loop-done.seat in
    let after = worker c.serve_one_with-served.new.pass c.serve_one_with-served.new.seat in
    let s : Session = record {
      input = g.A.Reader.Inlet.input c.in-Some.reader;
      ending = record {
        written = g.A.Writer.Outlet.output c.serve_one_with-served.new.writer;
        served = c.serve_one_with-served.result;
      };
    } in
    let one : IsServed c.args.rules.now g.J.Naming.opening g.K.Keeper.idle (is_bounded c.args.buffers.now)
    (AreHeld g.K.Keeper.holds g.K.Keeper.stays g.J.Naming.before) between after s = record {
      output = g.A.Writer.Outlet.output c.in-Some.writer;
      fresh = c.in-Some.ensures.fresh;
      serves = rw c.loop-done.invariant.3 at c.serve_one_with-served.ensures.serves;
    } in
    let arrives : Arrives (g.A.Connections.coming c.loop-done.connections)
    (g.A.Connections.coming c.close.new.self) s.input =
    subst (λ (left : Option (List (List ℕ))).
    Arrives (g.A.Connections.coming c.loop-done.connections) left s.input)
    (sym c.close.ensures.coming) c.in-Some.ensures.arrives in
    let added : AreAdded (g.A.Connections.past c.loop-done.connections)
    (g.A.Connections.past c.close.new.self) (s.ending ∷ []) =
    subst (λ (past : Option (List Ending)).
    AreAdded past (g.A.Connections.past c.close.new.self) (s.ending ∷ []))
    c.accept.ensures.past c.close.ensures.past in (
      works_more c.args.rules.now g.J.Naming.opening g.K.Keeper.idle (is_bounded c.args.buffers.now)
          (AreHeld g.K.Keeper.holds g.K.Keeper.stays g.J.Naming.before) before between after
          (g.A.Connections.coming c.args.connections.now)
          (g.A.Connections.coming c.loop-done.connections) (g.A.Connections.coming c.close.new.self)
          (g.A.Connections.past c.args.connections.now)
          (g.A.Connections.past c.loop-done.connections) (g.A.Connections.past c.close.new.self)
          c.loop-done.done s c.loop-done.invariant.0 one arrives added,
      farther_more before between after c.loop-done.done c.loop-done.invariant.1
          (served_farther c.args.rules.now g.J.Naming.opening g.K.Keeper.idle (is_bounded c.args.buffers.now)
          (AreHeld g.K.Keeper.holds g.K.Keeper.stays g.J.Naming.before) between after s one),
      publishes_more g.K.Keeper.holds g.K.Keeper.stays g.J.Naming.before c.args.seat.now c.loop-done.seat c.serve_one_with-served.new.seat
          c.loop-done.invariant.2 c.serve_one_with-served.ensures.held,
      c.serve_one_with-served.ensures.room ∙ c.loop-done.invariant.3,
    )
