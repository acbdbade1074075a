use Rattle.std.proofs.Common.{◌≡◌, ◌++◌, drop}
use Rattle.answers.specs.Body.{row_data}
use Rattle.answers.specs.AfterCommas.{after_commas}
use Rattle.answers.proofs.rows.append_rows_after_commas.Given as goal

abbrev pub invariant-loop-row : goal.invariant-loop-row
invariant-loop-row l =
    l.out.items ++ after_commas row_data (drop l.row-index l.rows)
    ≡ l.fn.out.items ++ after_commas row_data l.rows
