use Rattle.std.proofs.Common.{◌≡◌, ◌∙◌, ◌<◌, [], List, map, length, get_or, arith, sym, ap, subst}
use Rattle.std.proofs.lemmas.List.{length-map}
use Rattle.pages.specs.Pages.{leaf_list, branch_parts}
use Rattle.pages.specs.Sorted.{HasEntryIn}
use Rattle.pages.proofs.Pieces.{part_at}
use Rattle.pages.proofs.Groups.{entry_at, entry_group}
use Rattle.pages.proofs.search.entry_in_groups.Goals as goal

pub returns : goal.returns
returns g c =
    let groups : List (List (List _)) = map (branch_parts g.E.Entry.item) c.args.groups.now in
    let among : c.args.spot.group < length groups = entry_group groups c.args.spot c.requires in
    let within : c.args.spot.group < length c.args.groups.now = omega (arith, length-map c.args.groups.now (branch_parts g.E.Entry.item)) in
    let is : get_or groups c.args.spot.group [] ≡ map (leaf_list g.E.Entry.item) c.as_slice.result.now =
    part_at (branch_parts g.E.Entry.item) c.args.groups.now c.args.spot.group c.index-groups-spot.result within c.index-groups-spot.is
    ∙ ap (map (leaf_list g.E.Entry.item)) (sym (c.as_slice.ensures.value ∙ ap (λ v. v.items) c.deref.ensures)) in
    entry_at groups c.args.spot (map (leaf_list g.E.Entry.item) c.as_slice.result.now) is (subst (λ l. HasEntryIn l c.args.spot) is c.requires) ∙ c.entry_in_pages.ensures
