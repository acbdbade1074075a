use Rattle.std.proofs.Common.{◌≡◌, ◌≤◌, take}
use Rattle.join_schedule.specs.Expiry.{bytes_after}
use Rattle.join_schedule.proofs.expiring.have_at_most_after.Given as goal

abbrev pub invariant-loop-block : goal.invariant-loop-block
invariant-loop-block l = record {
  bytes_are : l.bytes ≡ bytes_after l.time (take l.block-index l.blocks);
  within : l.bytes ≤ l.most;
}
