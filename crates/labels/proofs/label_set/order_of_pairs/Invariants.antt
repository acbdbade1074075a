use Rattle.std.proofs.Common.{◌≡◌, ◌≤◌, ◌-◌, drop, length}
use Rattle.labels.specs.Labels.{labels_cmp}
use Rattle.labels.proofs.label_set.order_of_pairs.Given as goal

abbrev pub invariant-loop-at : goal.invariant-loop-at
invariant-loop-at l = record {
  inside : l.at ≤ length l.b;
  same : labels_cmp (drop l.at l.a) (drop l.at l.b) ≡ labels_cmp l.a l.b;
}

abbrev pub decreases-loop-at : goal.decreases-loop-at
decreases-loop-at l = length l.a - l.at
