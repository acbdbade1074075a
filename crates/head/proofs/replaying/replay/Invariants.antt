use Rattle.std.proofs.Common.{◌≡◌, take}
use Rattle.std.specs.Prelude.{Ok}
use Rattle.head.specs.Heads.{world_of}
use Rattle.head.specs.Replaying.{DeleteNothing, StandFirst}
use Rattle.head.specs.Worlds.{replayed}
use Rattle.head.proofs.replaying.replay.Given as goal

-- the world after the events so far, and the blocks
abbrev pub invariant-loop-place : goal.invariant-loop-place
invariant-loop-place l = record {
  world : replayed (world_of l.fn.at) (take l.place l.events) ≡ Ok (world_of l.snapshot);
  blocks : DeleteNothing (take l.place l.events) → StandFirst l.fn.at.blocks l.snapshot.blocks;
}
