use Rattle.std.proofs.Common.{◌≡◌, ◌*◌, ◌^◌, ◌<◌}
use Rattle.wire.specs.Reading.{uvarint_at, groups_at}
use Rattle.wire.proofs.Loops.{with_low}
use Rattle.wire.proofs.cut.sevens.Given as goal

abbrev pub invariant-loop-place : goal.invariant-loop-place
invariant-loop-place l = record {
  few : l.place < 10;
  low : l.low < 2 ^ (7 * l.place);
  so_far : with_low (2 ^ (7 * l.place)) l.low (groups_at l.place l.rest) ≡ uvarint_at l.bytes;
}
