use Rattle.std.proofs.Common.{◌≡◌, ◌++◌}
use Rattle.std.specs.Vec.Iter.{into_iter_items}
use Rattle.kept_world.specs.Sound.{first_head, AreRising}
use Rattle.kept_world.proofs.head.first_series.Given as goal

abbrev pub invariant-loop-one : goal.invariant-loop-one
invariant-loop-one l = record {
  head : first_head l.fn.kept.items ≡ l.made.items ++ first_head (into_iter_items l.one-iterator);
  rising : AreRising (into_iter_items l.one-iterator) → AreRising l.fn.kept.items;
  only : AreRising l.fn.kept.items → AreRising (into_iter_items l.one-iterator);
}
