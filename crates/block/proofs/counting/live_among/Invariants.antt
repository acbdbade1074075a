use Rattle.std.proofs.Common.{◌≡◌, ◌≤◌, length, take}
use Rattle.block.specs.Samples.{undeleted}
use Rattle.block.proofs.counting.live_among.Given as goal

abbrev pub invariant-loop-at : goal.invariant-loop-at
invariant-loop-at l = record {
  counted : l.count ≡ length (undeleted l.tombstones l.reference (take l.at l.samples));
  few : l.count ≤ l.at;
}
