use Rattle.std.proofs.Common.{take}
use Rattle.exposition.specs.Rows.{ArePutOf}
use Rattle.exposition.proofs.rows.put_rows.Given as goal

abbrev pub invariant-loop-row : goal.invariant-loop-row
invariant-loop-row l = ArePutOf (take l.row-index l.rows) l.runs
