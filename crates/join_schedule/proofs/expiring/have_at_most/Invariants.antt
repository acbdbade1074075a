use Rattle.std.proofs.Common.{◌≡◌, ◌≤◌, take}
use Rattle.join_schedule.specs.Blocks.{bytes_in}
use Rattle.join_schedule.proofs.expiring.have_at_most.Given as goal

abbrev pub invariant-loop-block : goal.invariant-loop-block
invariant-loop-block l = record {
  bytes_are : l.bytes ≡ bytes_in (take l.block-index l.blocks);
  within : l.bytes ≤ l.most;
}
