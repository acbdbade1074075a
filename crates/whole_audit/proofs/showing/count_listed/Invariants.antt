use Rattle.std.proofs.Common.{◌≡◌, ◌+◌, ◌*◌, ◌^◌, ◌≤◌, length, drop}
use Rattle.labels.specs.Rows.{points_of}
use Rattle.whole_audit.proofs.showing.count_listed.Given as goal

abbrev pub invariant-loop-row : goal.invariant-loop-row
invariant-loop-row l = record {
  left : l.count + length (points_of (drop l.row-index l.rows)) ≡ length (points_of l.rows);
  small : l.count ≤ l.row-index * 2 ^ 64;
}
