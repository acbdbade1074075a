use Rattle.std.proofs.Common.{◌≡◌, false, take}
use Rattle.std.specs.List.{list_any}
use Rattle.auditor.specs.Looking.{answers}
use Rattle.auditor.proofs.skip.audit_skip.Given as goal

abbrev pub invariant-loop-entry : goal.invariant-loop-entry
invariant-loop-entry l = record {
  same : l.looks ≡ l.initial.looks;
  none : list_any (answers l.initial.looks) (take l.entry-index l.series) ≡ false;
}
