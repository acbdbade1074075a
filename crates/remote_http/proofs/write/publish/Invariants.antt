use Rattle.std.proofs.Common.{◌≡◌, ◌++◌, length}
use Rattle.std.specs.Vec.Iter.{into_iter_items, into_iter_len}
use Rattle.snapshots.specs.Keeping.{PublishesHeld}
use Rattle.remote_http.specs.Filling.{batches_of}
use Rattle.remote_http.specs.Publishing.{IsPublished}
use Rattle.remote_http.specs.Workers.{worker}
use Rattle.remote_http.proofs.write.publish.Given as goal

abbrev pub invariant-loop-part : goal.invariant-loop-part
invariant-loop-part g l = record {
  published : IsPublished g.J.Naming.opening (batches_of l.yielded) (worker l.fn.pass l.fn.seat) (worker l.pass l.seat) l.left;
  held : PublishesHeld g.K.Keeper.holds g.K.Keeper.stays g.J.Naming.before l.fn.seat l.seat;
  left : into_iter_len l.part-iterator ≡ length (into_iter_items l.part-iterator);
  rest : l.fn.parts.items ≡ l.yielded ++ into_iter_items l.part-iterator;
}
