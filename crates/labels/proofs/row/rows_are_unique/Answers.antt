use Rattle.labels.proofs.RowLaws.{same_rows}
use Rattle.labels.proofs.row.rows_are_unique.Goals as goal

pub returns : goal.returns
returns c = same_rows
