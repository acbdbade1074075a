use Rattle.std.specs.Prelude.{Ok, Some, ◌+◌}
use Rattle.labels.specs.Labels.{Labels}
use Rattle.std.proofs.Common.{length, ◌-◌, ◌≡◌, drop, ◌≤◌, ◌*◌}
use Rattle.head.specs.BatchRows.{pairs_with}
use Rattle.head.specs.Taking.{head_added_each, place_from}
use Rattle.head.specs.Orders.{sets_of}
use Rattle.head.specs.Slots.{series_in_each, owned, AddsNoOwnBut}
use Rattle.head.proofs.adding.add_each_at.Given as goal

-- the steps from here on are those of all, whatever the label set at the place
abbrev pub invariant-loop-i : goal.invariant-loop-i
invariant-loop-i l = record {
  within : l.i ≤ length l.samples;
  sets : sets_of (series_in_each l.draft) ≡ sets_of (series_in_each l.fn.draft);
  same : (ls : Labels) → place_from ls 0 (series_in_each l.fn.draft) ≡ Some l.place → head_added_each l.floor (Ok (series_in_each l.draft)) (l.at + l.i) (drop l.i (pairs_with ls l.samples)) ≡ head_added_each l.floor (Ok (series_in_each l.fn.draft)) l.at (pairs_with ls l.samples);
  few : l.copied ≤ 119 * l.i;
  counted : l.copied + 119 * owned l.fn.draft ≤ 119 * owned l.draft;
  owners : (ls : Labels) → place_from ls 0 (series_in_each l.fn.draft) ≡ Some l.place → AddsNoOwnBut ls l.fn.draft l.draft;
}

abbrev pub decreases-loop-i : goal.decreases-loop-i
decreases-loop-i l = length l.samples - l.i
