use Rattle.std.specs.Prelude.{◌≡◌}
use Rattle.snapshots.specs.Keeping.{AreHeld, PublishesHeld}
use Rattle.query_http.specs.Bounds.{is_bounded}
use Rattle.query_http.specs.Serving.{worker}
use Rattle.server.specs.Working.{Works, IsFarther}
use Rattle.server.proofs.worker.work.Given as goal

abbrev pub invariant-loop-done : goal.invariant-loop-done
invariant-loop-done g l =
    Works l.rules g.J.Naming.opening g.K.Keeper.idle (is_bounded l.initial.buffers)
    (AreHeld g.K.Keeper.holds g.K.Keeper.stays g.J.Naming.before)
    (worker l.initial.pass l.initial.seat) (worker l.pass l.seat)
    (g.A.Connections.coming l.initial.connections) (g.A.Connections.coming l.connections)
    (g.A.Connections.past l.initial.connections) (g.A.Connections.past l.connections) l.done
    × IsFarther (worker l.initial.pass l.initial.seat) (worker l.pass l.seat) l.done
    × PublishesHeld g.K.Keeper.holds g.K.Keeper.stays g.J.Naming.before l.initial.seat l.seat
    × (is_bounded l.buffers ≡ is_bounded l.initial.buffers)
