use Rattle.std.proofs.Common.{take}
use Rattle.remote_rows.specs.Adding.{AddsSeries}
use Rattle.remote_rows.proofs.answer.put_rows.Given as goal

abbrev pub invariant-loop-row : goal.invariant-loop-row
invariant-loop-row l =
    AddsSeries (l.names_alone, take l.row-index l.rows) l.fn.out.items l.out.items
