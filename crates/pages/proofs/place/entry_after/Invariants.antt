use Rattle.std.proofs.Common.{◌≡◌, ◌+◌}
use Rattle.pages.specs.Pages.{groups_of}
use Rattle.pages.specs.Sorted.{place_of, IsSpot}
use Rattle.pages.proofs.place.entry_after.Given as goal

abbrev pub invariant-loop-entries : goal.invariant-loop-entries
invariant-loop-entries g l = record {
  spot : IsSpot (groups_of g.E.Entry.item l.groups) l.spot;
  same : place_of (groups_of g.E.Entry.item l.groups) l.spot + l.left ≡ place_of (groups_of g.E.Entry.item l.groups) l.fn.spot + l.fn.n;
}

abbrev pub decreases-loop-entries : goal.decreases-loop-entries
decreases-loop-entries g l = l.left
