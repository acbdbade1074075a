use Rattle.std.proofs.Common.{◌≡◌, false, take}
use Rattle.std.specs.List.{list_any}
use Rattle.auditor.specs.Looking.{rejects_each}
use Rattle.whole_audit.proofs.looks.one_rejects_each.Given as goal

abbrev pub invariant-loop-judge : goal.invariant-loop-judge
invariant-loop-judge l = record {
  same : l.judges ≡ l.initial.judges;
  accepted : list_any (λ matcher. rejects_each matcher l.series)
      (take l.judge-index l.initial.judges) ≡ false;
}
