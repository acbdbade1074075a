-- Rows in memory, in a range of times.
use Rattle.std.specs.Prelude.{◌≡◌, ◌+◌, List, []}
use Rattle.labels.specs.Contents.{Content}
use Rattle.labels.specs.Rows.{Row, points_of}
use Rattle.labels.specs.Parts.{laid_over}
use Rattle.kept_samples.specs.declared.keeping.Tally.{Tally}
use Rattle.prometheus_block.specs.Rows.{rows_between}
use Rattle.block_outputs.specs.declared.tiles.Stretch.{Stretch}
use Rattle.block_outputs.specs.Contents.{restricted}
use Rattle.block_outputs.specs.Writing.{samples_in}
use Rattle.blocktool.specs.Conversion.{capped}

-- counts with so many kept samples more
abbrev pub IsKept : List Row → Tally → Tally → Type 0
IsKept rows old new =
    new ≡ record old { kept = capped (old.kept + capped (samples_in rows)) }

-- rows in memory give those of a range, each of whose samples is kept
abbrev pub IsGivenByRows : List Row → Stretch → List Row → Tally → Tally → Type 0
IsGivenByRows all times rows old new =
    (rows ≡ rows_between times.from times.to all) × IsKept rows old new

-- what rows hold; of several samples at one point the first
abbrev pub content_of_rows : List Row → Content
content_of_rows rows = laid_over (points_of rows) []

-- rows in memory give of a range exactly what they hold in it
abbrev pub RowsGiveTheirContent : Type 0
RowsGiveTheirContent = (all : List Row) (s : Stretch) (rows : List Row) (old new : Tally)
    → IsGivenByRows all s rows old new
    → laid_over (points_of rows) [] ≡ restricted s.from s.to (content_of_rows all)
