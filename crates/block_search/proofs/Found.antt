-- The rows that are to be found in a part.
use Rattle.std.proofs.Common.{ℕ, ℤ, Bool, List, map}
use Rattle.std.specs.Prelude.{◌&&◌}
use Rattle.std.specs.List.{filter}
use Rattle.labels.specs.Labels.{Labels}
use Rattle.labels.specs.Rows.{Row}
use Rattle.labels.specs.Parts.{Part, has_sample}
use Rattle.block_search.specs.Answering.{row_within}

-- whether a series answers: its label set passes the test, and it has a sample in the closed range
abbrev pub answers : (Labels → Bool) → ℤ → ℤ → ℕ × Row → Bool
answers sat from to row = sat row.1.0 && has_sample from to row.1.1

-- the rows of the series of a part that answer, in the order of their references
abbrev pub rows_found : (Labels → Bool) → ℤ → ℤ → Part → List Row
rows_found sat from to part = map (λ row. row_within from to row.1) (filter (answers sat from to)
    part)
