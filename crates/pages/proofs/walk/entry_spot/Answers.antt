use Rattle.std.proofs.Common.{◌≡◌, ◌<◌, ◌≤◌, ◌∙◌, [], List, map, length, get_or, arith, sym, ap, subst}
use Rattle.std.proofs.lemmas.List.{length-map}
use Rattle.pages.specs.Pages.{leaf_list, branch_parts, flattened}
use Rattle.pages.specs.Sorted.{place_in}
use Rattle.pages.proofs.Pieces.{part_at}
use Rattle.pages.proofs.Walks.{slice_within, turned_group, last_group}
use Rattle.pages.proofs.walk.entry_spot.Goals as goal

pub returns-then-group-groups-clause-same : goal.returns-then-group-groups-clause-same
returns-then-group-groups-clause-same g c =
    let groups : List (List (List _)) = map (branch_parts g.E.Entry.item) c.args.groups.now in
    let within : c.args.spot.group < length c.args.groups.now = slice_within (branch_parts g.E.Entry.item) c.args.groups.now c.args.spot c.is_empty.result c.is_empty.ensures c.if-is_empty.false c.requires.spot in
    let is : get_or groups c.args.spot.group [] ≡ map (leaf_list g.E.Entry.item) c.as_slice.result.now =
    part_at (branch_parts g.E.Entry.item) c.args.groups.now c.args.spot.group c.index-groups-group.result within c.index-groups-group.is
    ∙ ap (map (leaf_list g.E.Entry.item)) (sym (c.as_slice.ensures.value ∙ ap (λ v. v.items) c.deref.ensures)) in
    (turned_group groups c.args.spot (omega (arith, length-map c.args.groups.now (branch_parts g.E.Entry.item))) c.requires.groups c.requires.spot.spot_in
    (subst (λ l. length (flattened l) ≤ place_in l c.args.spot) (sym is) c.in-None.ensures.none)
    (omega (arith, c.if-group-groups.true, length-map c.args.groups.now (branch_parts g.E.Entry.item)))).1

pub returns-else-group-groups-clause-none : goal.returns-else-group-groups-clause-none
returns-else-group-groups-clause-none g c =
    let groups : List (List (List _)) = map (branch_parts g.E.Entry.item) c.args.groups.now in
    let within : c.args.spot.group < length c.args.groups.now = slice_within (branch_parts g.E.Entry.item) c.args.groups.now c.args.spot c.is_empty.result c.is_empty.ensures c.if-is_empty.false c.requires.spot in
    let is : get_or groups c.args.spot.group [] ≡ map (leaf_list g.E.Entry.item) c.as_slice.result.now =
    part_at (branch_parts g.E.Entry.item) c.args.groups.now c.args.spot.group c.index-groups-group.result within c.index-groups-group.is
    ∙ ap (map (leaf_list g.E.Entry.item)) (sym (c.as_slice.ensures.value ∙ ap (λ v. v.items) c.deref.ensures)) in
    last_group groups c.args.spot (omega (arith, length-map c.args.groups.now (branch_parts g.E.Entry.item))) c.requires.groups c.requires.spot.spot_in
    (subst (λ l. length (flattened l) ≤ place_in l c.args.spot) (sym is) c.in-None.ensures.none)
    (omega (arith, c.if-group-groups.false, length-map c.args.groups.now (branch_parts g.E.Entry.item)))
