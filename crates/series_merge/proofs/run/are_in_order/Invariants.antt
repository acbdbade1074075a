use Rattle.std.specs.List.Sorted.{IsSortedWithin}
use Rattle.labels.specs.Rows.{row_before}
use Rattle.series_merge.proofs.run.are_in_order.Given as goal

abbrev pub invariant-loop-at : goal.invariant-loop-at
invariant-loop-at l = IsSortedWithin row_before l.runs 0 l.at
