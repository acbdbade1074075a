use Rattle.page_marks.proofs.Shown.{Continues}
use Rattle.page_marks.proofs.values.row_values.Given as goal

abbrev pub invariant-loop-row : goal.invariant-loop-row
invariant-loop-row l = Continues l.values l.rows l.row-index l.shown.items
