-- What is added to a result as it is written.
use Rattle.std.specs.Prelude.{◌≡◌, ℕ, List, ◌++◌}
use Rattle.remote_write.specs.Format.{SeriesValue}
use Rattle.remote_write.specs.Writing.{FitSeries, body_text}
use Rattle.remote_rows.specs.Sent.{Answer, IsResultOf}

-- the series of the rows were added
pub record AddsSeries (answer : Answer) (old new : List ℕ) : Type 0 where
  pub sent : List SeriesValue
  pub are : IsResultOf answer sent
  pub added : new ≡ old ++ body_text sent
  pub fits : FitSeries sent
