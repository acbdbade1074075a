use Rattle.std.proofs.Common.{◌≡◌, take}
use Rattle.head.specs.Heads.{IsSoundHead}
use Rattle.head.specs.Orders.{IsOrderOf}
use Rattle.head.specs.Slots.{series_in_each}
use Rattle.head.proofs.resume.series_of_saved.Given as goal

-- the series so far, sound, and their places
abbrev pub invariant-loop-series : goal.invariant-loop-series
invariant-loop-series l = record {
  same : series_in_each l.draft ≡ take l.series-index l.saved;
  ordered : IsOrderOf l.order (series_in_each l.draft);
  sound : IsSoundHead l.floor (take l.series-index l.saved);
}
