-- What is known of a label set that may have a series.
use Rattle.std.specs.Prelude.{ℤ, List, [], Option, None, Some}
use Rattle.head.specs.Heads.{HeadSeries}

-- the samples, none where there is no series
abbrev pub samples_or : Option HeadSeries → List (ℤ × ℤ)
samples_or None = []
samples_or (Some h) = h.samples

-- the newest one, also where it was deleted
abbrev pub known_of : Option HeadSeries → Option (ℤ × ℤ)
known_of None = None
known_of (Some h) = Some h.newest
