use Rattle.std.proofs.Common.{◌≡◌, ◌++◌, false, map}
use Rattle.std.specs.Vec.Iter.{into_iter_items}
use Rattle.auditor.specs.declared.judgement.BlockTable.TheVariants.{Walked}
use Rattle.store_command.specs.Printing.{has_refused}
use Rattle.store_command.proofs.report.walked.Given as goal

abbrev pub invariant-loop-table : goal.invariant-loop-table
invariant-loop-table l = record {
  parts : l.fn.tables.items ≡ map Walked l.parts.items ++ into_iter_items l.table-iterator;
  left : has_refused (into_iter_items l.table-iterator) ≡ false;
}
