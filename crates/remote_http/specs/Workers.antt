-- What a worker of the port knows.
use Rattle.std.specs.Prelude.{◌≡◌}
use mathlib.Core.List.{IsPrefix}
use Rattle.snapshots.specs.Seats.{SeatView}
use Rattle.snapshots.specs.Views.{Known}

-- a worker: what its pass knows, and its seat
pub record Worker : Type 0 where
  pub known : Known
  pub seat : SeatView

abbrev pub worker : Known → SeatView → Worker
worker known seat = record { known = known; seat = seat }

-- the worker has learnt no receipt and published no event, and has seen no less
pub record IsIdle (before after : Worker) : Type 0 where
  pub told : after.known.told ≡ before.known.told
  pub seat : after.seat ≡ before.seat
  pub seen : IsPrefix before.known.seen after.known.seen
