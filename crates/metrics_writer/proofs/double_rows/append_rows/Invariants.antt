use Rattle.std.specs.Borrow.{Bor}
use Rattle.labels.specs.Rows.{Row}
use Rattle.std.proofs.Common.{map, take}
use Rattle.metrics_writer.specs.Doubles.{IsRowOfDoubles}
use Rattle.metrics_writer.proofs.Joining.{Appended}
use Rattle.metrics_writer.proofs.double_rows.append_rows.Given as goal

abbrev pub invariant-loop-row : goal.invariant-loop-row
invariant-loop-row l =
    Appended (λ (row : Bor Row). IsRowOfDoubles row.now) (take l.row-index l.rows) l.fn.out.items l.out.items
