use Rattle.std.proofs.Common.{◌≡◌, drop}
use Rattle.store_command.specs.Printing.{has_refused}
use Rattle.store_command.proofs.report.has_refused.Given as goal

abbrev pub invariant-loop-table : goal.invariant-loop-table
invariant-loop-table l = has_refused l.tables ≡ has_refused (drop l.table-index l.tables)
