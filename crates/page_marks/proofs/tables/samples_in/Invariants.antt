use Rattle.std.proofs.Common.{◌≡◌, ◌+◌, drop}
use Rattle.page_marks.specs.Tables.{samples_in}
use Rattle.page_marks.proofs.tables.samples_in.Given as goal

abbrev pub invariant-loop-row : goal.invariant-loop-row
invariant-loop-row l = l.count + samples_in (drop l.row-index l.rows) ≡ samples_in l.rows
