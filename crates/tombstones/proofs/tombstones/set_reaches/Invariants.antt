use Rattle.std.proofs.Common.{◌≡◌, length}
use Rattle.tombstones.specs.Order.{AreReaches}
use Rattle.tombstones.proofs.tombstones.set_reaches.Given as goal

abbrev pub invariant-loop-at : goal.invariant-loop-at
invariant-loop-at l = record {
  each : length l.reaches ≡ length l.deletions;
  so_far : AreReaches l.at l.deletions l.reaches;
}
