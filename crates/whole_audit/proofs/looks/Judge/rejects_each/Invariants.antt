use Rattle.std.proofs.Common.{◌≡◌, true, take}
use Rattle.auditor.specs.Looking.{rejects_each}
use Rattle.whole_audit.proofs.looks.Judge.rejects_each.Given as goal

abbrev pub invariant-loop-entry : goal.invariant-loop-entry
invariant-loop-entry l = record {
  same : l.self ≡ l.initial.self;
  rejected : rejects_each l.initial.self (take l.entry-index l.series) ≡ true;
}
