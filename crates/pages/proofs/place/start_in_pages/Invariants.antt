use Rattle.std.proofs.Common.{◌≡◌, ◌-◌, ◌≤◌}
use Rattle.pages.specs.Pages.{leaf_lists}
use Rattle.pages.specs.Sorted.{start_of}
use Rattle.pages.proofs.place.start_in_pages.Given as goal

abbrev pub invariant-loop-k : goal.invariant-loop-k
invariant-loop-k g l = record {
  within : l.k ≤ l.page;
  counted : l.count ≡ start_of (leaf_lists g.E.Entry.item l.pages) l.k;
}

abbrev pub decreases-loop-k : goal.decreases-loop-k
decreases-loop-k g l = l.page - l.k
