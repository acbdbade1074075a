use Rattle.std.specs.Prelude.{Ok, Bool, T, ◌+◌}
use Rattle.std.specs.List.{list_all}
use Rattle.labels.specs.Labels.{Labels}
use Rattle.std.proofs.Common.{length, ◌≡◌, drop, ◌≤◌, ◌*◌}
use Rattle.head.specs.BatchRows.{batch_of_rows}
use Rattle.head.specs.Taking.{head_added_each}
use Rattle.head.specs.Orders.{IsOrderOf}
use Rattle.head.specs.Slots.{series_in_each, owned, AllOwn}
use Rattle.head.proofs.adding.add_rows.Given as goal

-- the steps of the rows that are left are those of all
abbrev pub invariant-loop-row : goal.invariant-loop-row
invariant-loop-row l = record {
  ordered : IsOrderOf l.order (series_in_each l.draft);
  same : head_added_each l.floor (Ok (series_in_each l.draft)) l.at (batch_of_rows (drop l.row-index l.rows)) ≡ head_added_each l.floor (Ok (series_in_each l.fn.draft)) 0 (batch_of_rows l.rows);
  left : l.at + length (batch_of_rows (drop l.row-index l.rows)) ≡ length (batch_of_rows l.rows);
  few : l.copied ≤ 119 * l.at;
  counted : l.copied + 119 * owned l.fn.draft ≤ 119 * owned l.draft;
  owners : (p : Labels → Bool) → T (list_all (λ x. p x.0) (batch_of_rows l.rows)) → AllOwn p l.fn.draft → AllOwn p l.draft;
}
