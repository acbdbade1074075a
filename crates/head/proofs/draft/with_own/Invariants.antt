use Rattle.std.proofs.Common.{◌≡◌, ℕ, ◌≤◌, None, length}
use Rattle.std.specs.Ordering.{nat_cmp}
use Rattle.std.specs.BTreeMap.{get, btree_map_len}
use Rattle.head.specs.Slots.{series_in_each, slots_from}
use Rattle.head.proofs.draft.with_own.Given as goal

-- what is made, with what is left, is all
abbrev pub invariant-loop-place : goal.invariant-loop-place
invariant-loop-place l = record {
  same : series_in_each (slots_from 0 l.made (get nat_cmp l.own)) ≡ series_in_each (slots_from 0 l.fn.list (get nat_cmp l.fn.own));
  count : length l.made ≡ length l.fn.list;
  inside : (place : ℕ) → length l.fn.list ≤ place → get nat_cmp l.own place ≡ None;
}

abbrev pub decreases-loop-place : goal.decreases-loop-place
decreases-loop-place l = btree_map_len l.own
