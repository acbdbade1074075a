use Rattle.std.proofs.Common.{◌≡◌, ◌+◌, ◌*◌, ◌^◌, ◌≤◌, length, drop}
use Rattle.whole_audit.specs.Counting.{asked_points}
use Rattle.whole_audit.proofs.showing.count_asked.Given as goal

abbrev pub invariant-loop-entry : goal.invariant-loop-entry
invariant-loop-entry l = record {
  same : l.looks ≡ l.initial.looks;
  left : l.count + length (asked_points l.initial.looks (drop l.entry-index l.series))
      ≡ length (asked_points l.initial.looks l.series);
  small : l.count ≤ l.entry-index * 2 ^ 64;
}
