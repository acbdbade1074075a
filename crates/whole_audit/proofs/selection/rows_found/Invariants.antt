use Rattle.std.proofs.Common.{◌≡◌, take}
use Rattle.auditor.specs.Looking.{rows_found}
use Rattle.whole_audit.proofs.selection.rows_found.Given as goal

abbrev pub invariant-loop-entry : goal.invariant-loop-entry
invariant-loop-entry l = record {
  same : l.looks ≡ l.initial.looks;
  found : l.rows.items ≡ rows_found l.initial.looks (take l.entry-index l.series);
}
