use Rattle.std.proofs.Common.{◌≡◌, ◌-◌, ◌≤◌, map}
use Rattle.pages.specs.Pages.{groups_of, flattened}
use Rattle.pages.specs.Sorted.{start_of}
use Rattle.pages.proofs.place.start_in_groups.Given as goal

abbrev pub invariant-loop-k : goal.invariant-loop-k
invariant-loop-k g l = record {
  within : l.k ≤ l.group;
  counted : l.count ≡ start_of (map flattened (groups_of g.E.Entry.item l.groups)) l.k;
}

abbrev pub decreases-loop-k : goal.decreases-loop-k
decreases-loop-k g l = l.group - l.k
