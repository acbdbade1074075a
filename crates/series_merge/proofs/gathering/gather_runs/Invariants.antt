use Rattle.std.proofs.Common.{◌≤◌, drop, length}
use Rattle.std.specs.List.{All}
use Rattle.std.specs.List.Sorted.{IsSortedBy}
use Rattle.labels.specs.Rows.{IsFull, row_before}
use Rattle.series_merge.specs.Merging.{ListAlike, newest_first, row_lists}
use Rattle.series_merge.specs.Walking.{all_rows}
use Rattle.series_merge.proofs.gathering.gather_runs.Given as goal

abbrev pub invariant-loop-left : goal.invariant-loop-left
invariant-loop-left l = record {
  listed : ListAlike (all_rows l.parts.items) (newest_first (row_lists (drop l.left l.answers)));
  full : All IsFull (all_rows l.parts.items);
  sorted : All (IsSortedBy row_before) l.parts.items;
  within : l.left ≤ length l.answers;
}

abbrev pub decreases-loop-left : goal.decreases-loop-left
decreases-loop-left l = l.left
