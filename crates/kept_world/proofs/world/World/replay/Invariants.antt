use Rattle.std.proofs.Common.{◌≡◌, ◌+◌, take, Some}
use Rattle.kept_world.specs.States.{state_after}
use Rattle.kept_world.specs.Changes.{events_of}
use Rattle.kept_world.proofs.world.World.replay.Given as goal

abbrev pub invariant-loop-i : goal.invariant-loop-i
invariant-loop-i l = record {
  number : l.world.number ≡ l.fn.self.number + l.i;
  state : state_after (events_of (take l.i l.changes)) l.fn.self ≡ Some l.world;
}
