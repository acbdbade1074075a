-- The rows with which a part answers a query.
use Rattle.std.specs.Prelude.{◌≡◌, ℤ, filter, Option, None, Some, option_map, if◌then◌else◌}
use Rattle.std.specs.Prelude.{Result, IfOk, MatchOption}
use Rattle.std.specs.declared.alloc.AllocError.{AllocError}
use Rattle.labels.specs.Contents.{in_range}
use Rattle.labels.specs.Rows.{Row}
use Rattle.labels.specs.Parts.{Part, row_at}
use Rattle.cover.specs.declared.certificate.Interval.{Interval}
use Rattle.cover.specs.Certificates.{is_match}

-- the row with its samples in the closed range alone
abbrev pub row_within : ℤ → ℤ → Row → Row
row_within from to row = (row.0, filter (λ (s : ℤ × ℤ). in_range from to s.0) row.1)

-- the row that an interval stands for: under Match that of its one reference, and else none
abbrev pub row_of_interval : ℤ → ℤ → Part → Interval → Option Row
row_of_interval from to part interval =
    if is_match interval.verdict
    then option_map (row_within from to) (row_at interval.from part) else None

-- what is found at an interval: nothing where it stands for no row, and else the row, unless memory
-- was refused
abbrev pub IsFoundRow : ℤ → ℤ → Part → Interval → Option (Result Row AllocError) → Type 0
IsFoundRow from to part interval found =
    MatchOption found (row_of_interval from to part interval ≡ None)
    (λ row. IfOk row (λ r. row_of_interval from to part interval ≡ Some r))
