use Rattle.std.proofs.Common.{◌≡◌, ◌∙◌, ◌<◌, ◌-◌, ℕ, [], List, map, length, get_or, arith, sym, ap}
use Rattle.std.proofs.lemmas.List.{length-map}
use Rattle.pages.specs.Pages.{leaf_list, branch_parts, flattened}
use Rattle.pages.proofs.Pieces.{part_at}
use Rattle.pages.proofs.Spots.{gap_first}
use Rattle.pages.proofs.Groups.{some_groups, group_of, group_split, hits, gaps}
use Rattle.pages.proofs.search.find_in_groups.Goals as goal

pub returns-then-count-eq0-clause-absent : goal.returns-then-count-eq0-clause-absent
returns-then-count-eq0-clause-absent g c split =
    let groups : List (List (List _)) = map (branch_parts g.E.Entry.item) c.args.groups.now in
    gap_first (g.P.Probe.order c.args.probe.now) (map flattened groups) (some_groups groups c.requires) split
    (λ j l b. (c.groups_before-count.ensures.starts split).high j (omega arith) b)

pub find_in_pages-requires : goal.find_in_pages-requires
find_in_pages-requires g c =
    let groups : List (List (List _)) = map (branch_parts g.E.Entry.item) c.args.groups.now in
    let k : ℕ = c.groups_before-count.result - 1 in
    let within : k < length c.args.groups.now = omega (arith, c.groups_before-count.ensures.inside) in
    let is : get_or groups k [] ≡ map (leaf_list g.E.Entry.item) c.as_slice.result.now =
    part_at (branch_parts g.E.Entry.item) c.args.groups.now k c.index-groups-group.result within c.index-groups-group.is
    ∙ ap (map (leaf_list g.E.Entry.item)) (sym (c.as_slice.ensures.value ∙ ap (λ v. v.items) c.deref.ensures)) in
    (group_of groups k (map (leaf_list g.E.Entry.item) c.as_slice.result.now) (omega (arith, length-map c.args.groups.now (branch_parts g.E.Entry.item))) is c.requires).1

pub returns-clause-found : goal.returns-clause-found
returns-clause-found g c split =
    let groups : List (List (List _)) = map (branch_parts g.E.Entry.item) c.args.groups.now in
    let k : ℕ = c.groups_before-count.result - 1 in
    let within : k < length c.args.groups.now = omega (arith, c.groups_before-count.ensures.inside) in
    let is : get_or groups k [] ≡ map (leaf_list g.E.Entry.item) c.as_slice.result.now =
    part_at (branch_parts g.E.Entry.item) c.args.groups.now k c.index-groups-group.result within c.index-groups-group.is
    ∙ ap (map (leaf_list g.E.Entry.item)) (sym (c.as_slice.ensures.value ∙ ap (λ v. v.items) c.deref.ensures)) in
    hits groups k (map (leaf_list g.E.Entry.item) c.as_slice.result.now) (omega (arith, length-map c.args.groups.now (branch_parts g.E.Entry.item))) is (g.P.Probe.order c.args.probe.now)
    c.find_in_pages.result c.find_in_pages.ensures.group (c.find_in_pages.ensures.found (group_split groups k (map (leaf_list g.E.Entry.item) c.as_slice.result.now) (omega (arith, length-map c.args.groups.now (branch_parts g.E.Entry.item))) is (g.P.Probe.order c.args.probe.now) split))

pub returns-clause-absent : goal.returns-clause-absent
returns-clause-absent g c split =
    let groups : List (List (List _)) = map (branch_parts g.E.Entry.item) c.args.groups.now in
    let k : ℕ = c.groups_before-count.result - 1 in
    let within : k < length c.args.groups.now = omega (arith, c.groups_before-count.ensures.inside) in
    let is : get_or groups k [] ≡ map (leaf_list g.E.Entry.item) c.as_slice.result.now =
    part_at (branch_parts g.E.Entry.item) c.args.groups.now k c.index-groups-group.result within c.index-groups-group.is
    ∙ ap (map (leaf_list g.E.Entry.item)) (sym (c.as_slice.ensures.value ∙ ap (λ v. v.items) c.deref.ensures)) in
    gaps groups k (map (leaf_list g.E.Entry.item) c.as_slice.result.now) (omega (arith, length-map c.args.groups.now (branch_parts g.E.Entry.item))) is (g.P.Probe.order c.args.probe.now)
    c.find_in_pages.result c.requires split
    ((c.groups_before-count.ensures.starts split).low k (omega arith)) (λ j l b. (c.groups_before-count.ensures.starts split).high j (omega arith) b)
    c.find_in_pages.ensures.group (c.find_in_pages.ensures.absent (group_split groups k (map (leaf_list g.E.Entry.item) c.as_slice.result.now) (omega (arith, length-map c.args.groups.now (branch_parts g.E.Entry.item))) is (g.P.Probe.order c.args.probe.now) split))
