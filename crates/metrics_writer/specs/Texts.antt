-- Rows as whole texts.
use Rattle.std.specs.Prelude.{ℕ, List, ◌++◌, codes}
use Rattle.labels.specs.Rows.{Row}
use Rattle.metrics_writer.specs.Groups.{grouped}
use Rattle.metrics_writer.specs.Series.{rows_text}

-- the lines of all rows, those of each metric together, and the end
abbrev pub text_of : ℕ → List Row → List ℕ
text_of places rows = rows_text places (grouped rows) ++ codes "# EOF\n"
