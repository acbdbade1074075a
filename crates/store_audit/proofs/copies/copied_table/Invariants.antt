use Rattle.std.proofs.Common.{◌≡◌, take}
use Rattle.store_audit.proofs.copies.copied_table.Given as goal

abbrev pub invariant-loop-entry : goal.invariant-loop-entry
invariant-loop-entry l = l.series.items ≡ take l.entry-index l.table
