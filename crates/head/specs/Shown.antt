-- What callers see of a head.
use Rattle.std.specs.Prelude.{ℕ, List, Option, None, Some, length, min}
use Rattle.labels.specs.Parts.{Part}
use Rattle.labels.specs.Rows.{Row}
use Rattle.head.specs.declared.TheConstants.{MAX_SAMPLES}
use Rattle.head.specs.declared.head.HeadView.{HeadView}
use Rattle.head.specs.Heads.{HeadSeries, head_part}

-- the series in order of creation
abbrev pub series_of : HeadView → List HeadSeries
series_of head = head.series

-- the head as a part
abbrev pub part_of : HeadView → Part
part_of head = head_part (series_of head)

-- how many old samples the event that made the version copied
abbrev pub copied_of : HeadView → ℕ
copied_of head = head.copied

-- how many samples a row has, at most as many as a series may have; none where there is no row
abbrev pub sample_count_at : Option Row → ℕ
sample_count_at None = 0
sample_count_at (Some row) = min MAX_SAMPLES (length row.1)
