use Rattle.std.proofs.Common.{◌≡◌, ◌∙◌, ◌<◌, [], List, map, length, get_or, sym, ap, subst, arith}
use Rattle.std.proofs.lemmas.List.{length-map}
use Rattle.pages.specs.Pages.{leaf_list, leaf_lists, branch_parts, groups_of}
use Rattle.pages.specs.Sorted.{IsGroup, IsSpotIn}
use Rattle.pages.proofs.Pieces.{part_at}
use Rattle.pages.proofs.Walks.{slice_within}
use Rattle.pages.proofs.Counts.{group_fits, spot_fits}
use Rattle.pages.proofs.place.place_at.Goals as goal

pub start_in_pages-requires-clause-few : goal.start_in_pages-requires-clause-few
start_in_pages-requires-clause-few g c =
    let groups : List (List (List _)) = groups_of g.E.Entry.item c.args.groups.now in
    let within : c.args.spot.group < length c.args.groups.now = slice_within (branch_parts g.E.Entry.item) c.args.groups.now c.args.spot c.is_empty.result c.is_empty.ensures c.if-is_empty.false c.requires.spot in
    let is : get_or groups c.args.spot.group [] ≡ leaf_lists g.E.Entry.item c.as_slice-pages.result.now =
    part_at (branch_parts g.E.Entry.item) c.args.groups.now c.args.spot.group c.index-groups-spot.result within c.index-groups-spot.is
    ∙ ap (map (leaf_list g.E.Entry.item)) (sym (c.as_slice-pages.ensures.value ∙ ap (λ v. v.items) c.deref.ensures)) in
    omega (arith, group_fits groups c.args.spot.group (leaf_lists g.E.Entry.item c.as_slice-pages.result.now) (omega (arith, within, length-map c.args.groups.now (branch_parts g.E.Entry.item))) is, c.requires.few)

pub overflow_add-result : goal.overflow_add-result
overflow_add-result g c =
    let groups : List (List (List _)) = groups_of g.E.Entry.item c.args.groups.now in
    let within : c.args.spot.group < length c.args.groups.now = slice_within (branch_parts g.E.Entry.item) c.args.groups.now c.args.spot c.is_empty.result c.is_empty.ensures c.if-is_empty.false c.requires.spot in
    let among : c.args.spot.group < length groups = omega (arith, within, length-map c.args.groups.now (branch_parts g.E.Entry.item)) in
    let is : get_or groups c.args.spot.group [] ≡ leaf_lists g.E.Entry.item c.as_slice-pages.result.now =
    part_at (branch_parts g.E.Entry.item) c.args.groups.now c.args.spot.group c.index-groups-spot.result within c.index-groups-spot.is
    ∙ ap (map (leaf_list g.E.Entry.item)) (sym (c.as_slice-pages.ensures.value ∙ ap (λ v. v.items) c.deref.ensures)) in
    let group : IsGroup (leaf_lists g.E.Entry.item c.as_slice-pages.result.now) = subst IsGroup is (c.requires.groups c.args.spot.group [] among) in
    let spot : IsSpotIn (leaf_lists g.E.Entry.item c.as_slice-pages.result.now) c.args.spot = subst (λ l. IsSpotIn l c.args.spot) is c.requires.spot.spot_in in
    omega (arith, group_fits groups c.args.spot.group (leaf_lists g.E.Entry.item c.as_slice-pages.result.now) among is, spot_fits (leaf_lists g.E.Entry.item c.as_slice-pages.result.now) c.args.spot group spot, c.start_in_pages.ensures, c.requires.few)

pub overflow_add-result-2 : goal.overflow_add-result-2
overflow_add-result-2 g c =
    let groups : List (List (List _)) = groups_of g.E.Entry.item c.args.groups.now in
    let within : c.args.spot.group < length c.args.groups.now = slice_within (branch_parts g.E.Entry.item) c.args.groups.now c.args.spot c.is_empty.result c.is_empty.ensures c.if-is_empty.false c.requires.spot in
    let among : c.args.spot.group < length groups = omega (arith, within, length-map c.args.groups.now (branch_parts g.E.Entry.item)) in
    let is : get_or groups c.args.spot.group [] ≡ leaf_lists g.E.Entry.item c.as_slice-pages.result.now =
    part_at (branch_parts g.E.Entry.item) c.args.groups.now c.args.spot.group c.index-groups-spot.result within c.index-groups-spot.is
    ∙ ap (map (leaf_list g.E.Entry.item)) (sym (c.as_slice-pages.ensures.value ∙ ap (λ v. v.items) c.deref.ensures)) in
    let group : IsGroup (leaf_lists g.E.Entry.item c.as_slice-pages.result.now) = subst IsGroup is (c.requires.groups c.args.spot.group [] among) in
    let spot : IsSpotIn (leaf_lists g.E.Entry.item c.as_slice-pages.result.now) c.args.spot = subst (λ l. IsSpotIn l c.args.spot) is c.requires.spot.spot_in in
    omega (arith, group_fits groups c.args.spot.group (leaf_lists g.E.Entry.item c.as_slice-pages.result.now) among is, spot_fits (leaf_lists g.E.Entry.item c.as_slice-pages.result.now) c.args.spot group spot, c.start_in_groups.ensures, c.start_in_pages.ensures, c.requires.few)
