use Rattle.std.proofs.Common.{◌∙◌, ◌++◌, List, Vec, Global, map, set, sym, ap, subst}
use Rattle.std.specs.List.{insert}
use Rattle.pages.specs.Pages.{Page, leaf_list, branch_parts, groups_of, flattened}
use Rattle.pages.specs.Sorted.{place_in, IsGroup, AreGroups, entries_of}
use Rattle.pages.proofs.GroupWrites.{written_two, groups_two}
use Rattle.pages.proofs.edit.insert_in_full_group.Goals as goal

pub returns-clause-ok : goal.returns-clause-ok
returns-clause-ok g c =
    ap (λ (l : List (Page (Page _))). entries_of (groups_of g.E.Entry.item (set l c.args.spot.group c.in_ok-left-2.left))) c.in_ok-insert.ensures.items
    ∙ written_two (branch_parts g.E.Entry.item) c.args.groups.now.items c.args.spot c.index-full.result.now c.requires.within c.index-full.ensures c.in_ok-left-2.left c.in_ok-right.right (g.E.Entry.item c.args.x) c.requires.groups c.requires.spot
    (ap (λ (v : Vec _ Global). flattened (map (leaf_list g.E.Entry.item) v.items) ++ flattened (branch_parts g.E.Entry.item c.in_ok-right.right)) c.in_ok-left-2.ensures.ok
    ∙ (ap (λ (v : Vec _ Global). flattened (map (leaf_list g.E.Entry.item) c.in_ok-left.left.items) ++ flattened (map (leaf_list g.E.Entry.item) v.items)) c.in_ok-right.ensures.ok
    ∙ (c.in_ok-left.ensures.whole
    ∙ ap (λ (v : Vec _ Global). insert (flattened (map (leaf_list g.E.Entry.item) v.items)) (place_in (map (leaf_list g.E.Entry.item) v.items) c.args.spot) (g.E.Entry.item c.args.x)) c.deref.ensures)))

pub returns-clause-groups : goal.returns-clause-groups
returns-clause-groups g c =
    subst (λ (l : List (Page (Page _))). AreGroups (groups_of g.E.Entry.item (set l c.args.spot.group c.in_ok-left-2.left))) (sym c.in_ok-insert.ensures.items)
    (groups_two (branch_parts g.E.Entry.item) c.args.groups.now.items c.args.spot.group c.in_ok-left-2.left c.in_ok-right.right c.requires.groups
    (subst (λ (v : Vec _ Global). IsGroup (map (leaf_list g.E.Entry.item) v.items)) (sym c.in_ok-left-2.ensures.ok) c.in_ok-left.ensures.groups.0)
    (subst (λ (v : Vec _ Global). IsGroup (map (leaf_list g.E.Entry.item) v.items)) (sym c.in_ok-right.ensures.ok) c.in_ok-left.ensures.groups.1))
