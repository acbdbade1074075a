use Rattle.std.proofs.Common.{◌≡◌, take}
use Rattle.head.specs.Orders.{IsOrderOf}
use Rattle.head.specs.Removing.{head_cut}
use Rattle.head.specs.Slots.{series_in_each}
use Rattle.head.proofs.cut.series_from.Given as goal

-- those of the series so far that stay, and their places
abbrev pub invariant-loop-place : goal.invariant-loop-place
invariant-loop-place l = record {
  stay : series_in_each l.draft ≡ head_cut l.time (take l.place l.head);
  ordered : IsOrderOf l.order (series_in_each l.draft);
}
