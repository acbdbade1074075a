-- The rows of all parts, where one part alone may have them.
use Rattle.std.specs.Prelude.{◌≡◌, ◌==◌, ⊤, List, [], ◌∷◌, length, if◌then◌else◌}
use Rattle.labels.specs.Rows.{Row}
use Rattle.block_search.specs.declared.answered.AnsweredPart.{AnsweredPart}
use Rattle.block_search.specs.declared.answered.AnsweredPart.TheVariants.{Searched, Skipped}
use Rattle.series_merge.specs.declared.one_part.MergedRows.{MergedRows}
use Rattle.series_merge.specs.declared.one_part.MergedRows.TheVariants.{OfOnePart, Merged}
use Rattle.answers.specs.declared.audited.AuditedAnswer.{AuditedAnswer}

-- the rows that are told of a part
abbrev pub rows_told : AnsweredPart → List Row
rows_told (Searched answer) = answer.rows.items
rows_told (Skipped name) = []

-- the rows of the first part that has any
abbrev pub first_rows : List AnsweredPart → List Row
first_rows [] = []
first_rows (part ∷ later) =
    if length (rows_told part) == 0 then first_rows later else rows_told part

-- rows are those of the next part, if there is one
abbrev pub HasRowsNext : List AnsweredPart → List Row → Type 0
HasRowsNext [] rows = ⊤
HasRowsNext (part ∷ later) rows = rows ≡ rows_told part

abbrev pub rows_by : MergedRows → List AnsweredPart → List Row
rows_by OfOnePart parts = first_rows parts
rows_by (Merged rows) parts = rows.items

-- the rows of all parts
abbrev pub rows_of : AuditedAnswer → List Row
rows_of answer = rows_by answer.merged answer.parts.items
