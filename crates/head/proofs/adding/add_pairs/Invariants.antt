use Rattle.std.specs.Prelude.{Ok, Bool, T, ◌+◌}
use Rattle.std.specs.List.{list_all}
use Rattle.labels.specs.Labels.{Labels}
use Rattle.std.proofs.Common.{length, ◌-◌, ◌≡◌, drop, ◌≤◌, ◌*◌}
use Rattle.head.specs.Taking.{head_added_each}
use Rattle.head.specs.Orders.{IsOrderOf}
use Rattle.head.specs.Slots.{series_in_each, owned, AllOwn}
use Rattle.head.proofs.adding.add_pairs.Given as goal

-- the steps from here on are those of all
abbrev pub invariant-loop-i : goal.invariant-loop-i
invariant-loop-i l = record {
  within : l.i ≤ length l.batch;
  ordered : IsOrderOf l.order (series_in_each l.draft);
  same : head_added_each l.floor (Ok (series_in_each l.draft)) l.i (drop l.i l.batch) ≡ head_added_each l.floor (Ok (series_in_each l.fn.draft)) 0 l.batch;
  few : l.copied ≤ 119 * l.i;
  counted : l.copied + 119 * owned l.fn.draft ≤ 119 * owned l.draft;
  owners : (p : Labels → Bool) → T (list_all (λ x. p x.0) l.batch) → AllOwn p l.fn.draft → AllOwn p l.draft;
}

abbrev pub decreases-loop-i : goal.decreases-loop-i
decreases-loop-i l = length l.batch - l.i
