use Rattle.std.proofs.Common.{map, drop, subst}
use Rattle.pages.specs.Pages.{groups_of, IsPrefix}
use Rattle.pages.specs.Sorted.{entries_of}
use Rattle.pages.proofs.Pieces.{leaf_prefix}
use Rattle.pages.proofs.Walks.{page_prefix}
use Rattle.pages.proofs.walk.step.Goals as goal

pub returns-clause-prefix : goal.returns-clause-prefix
returns-clause-prefix g c =
    subst (λ n. IsPrefix (map g.E.Entry.item c.leaf_from.result.now) (drop n (entries_of (groups_of g.E.Entry.item c.args.groups.now)))) c.in_ok-next.ensures.same
    (page_prefix (groups_of g.E.Entry.item c.args.groups.now) c.in_ok-next.next (map g.E.Entry.item c.leaf_from.result.now) c.in_ok-next.ensures.entry
    (subst (λ l. IsPrefix (map g.E.Entry.item c.leaf_from.result.now) (drop c.in_ok-next.next.at l)) c.page_in_groups-page.ensures
    (leaf_prefix g.E.Entry.item c.page_in_groups-page.result.now c.leaf_from.result.now c.in_ok-next.next.at c.leaf_from.ensures)))
