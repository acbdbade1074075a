-- Counts of what a body has, each at most 2^64 - 1.
use Rattle.std.specs.Prelude.{◌≡◌, ◌-◌, ◌^◌, ℕ, Bool, List, length, min, nat_le, ◌&&◌, Result, Ok}
use Rattle.std.specs.Prelude.{Err}
use Rattle.remote_write.specs.Format.{SeriesValue}
use Rattle.remote_write.specs.Reading.{request_at}
use Rattle.remote_requests.specs.declared.asked.ReadError.{ReadError}
use Rattle.remote_requests.specs.declared.body.Counts.{Counts}
use Rattle.remote_requests.specs.Series.{points_in, labels_in}
use Rattle.remote_requests.specs.Writing.{IsTold, spelled}

abbrev pub counted_in : ℕ → ℕ
counted_in n = min n (2 ^ 64 - 1)

pub record AreCounts (counts : Counts) (all : List SeriesValue) : Type 0 where
  pub series : counts.series ≡ counted_in (length all)
  pub points : counts.points ≡ counted_in (points_in all)
  pub labels : counts.labels ≡ counted_in (labels_in all)

abbrev pub has_few : Counts → Bool
has_few counts =
    nat_le counts.series 65536 && nat_le counts.points 65536 && nat_le counts.labels 1048576

-- the counts of all series of a text, or why it has none
abbrev pub CountsTold : List ℕ → Result Counts ReadError → Type 0
CountsTold text (Ok counts) =
    (all : List SeriesValue) × (request_at text ≡ Ok all) × AreCounts counts all
CountsTold text (Err e) = IsTold e (spelled (request_at text))
