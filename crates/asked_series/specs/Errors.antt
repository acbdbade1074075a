-- Why a text is not read as a series, for people.
use Rattle.std.specs.Prelude.{ℕ, List, codes}
use Rattle.asked_series.specs.declared.error.SeriesError.{SeriesError}
use Rattle.asked_series.specs.declared.error.SeriesError.TheVariants.{NoSeries, Memory}

-- why a text is not read as a series, in a line
abbrev pub series_error_text : SeriesError → List ℕ
series_error_text NoSeries = codes "no series"
series_error_text Memory = codes "no memory"
