use Rattle.std.proofs.Common.{◌≡◌, ◌∙◌, ◌<◌, [], map, length, get_or, sym, ap, arith}
use Rattle.std.proofs.lemmas.List.{length-map}
use Rattle.pages.specs.Pages.{leaf_list, leaf_lists, branch_parts, groups_of, flattened}
use Rattle.pages.proofs.Pieces.{part_at}
use Rattle.pages.proofs.Spots.{start_end}
use Rattle.pages.proofs.Counts.{group_next, group_fits}
use Rattle.pages.proofs.place.start_in_groups.Goals as goal

pub start_in_pages-count-requires-clause-few : goal.start_in_pages-count-requires-clause-few
start_in_pages-count-requires-clause-few g c =
    let l = c.loop-k in
    let within : l.k < length c.args.groups.now = omega (arith, c.loop-k-test.true, c.requires.within) in
    let is : get_or (groups_of g.E.Entry.item c.args.groups.now) l.k [] ≡ leaf_lists g.E.Entry.item c.as_slice-pages.result.now =
    part_at (branch_parts g.E.Entry.item) c.args.groups.now l.k c.index-groups-k.result within c.index-groups-k.is
    ∙ ap (map (leaf_list g.E.Entry.item)) (sym (c.as_slice-pages.ensures.value ∙ ap (λ v. v.items) c.deref.ensures)) in
    omega (arith, group_fits (groups_of g.E.Entry.item c.args.groups.now) l.k (leaf_lists g.E.Entry.item c.as_slice-pages.result.now) (omega (arith, within, length-map c.args.groups.now (branch_parts g.E.Entry.item))) is, c.requires.few)

pub overflow_add-count : goal.overflow_add-count
overflow_add-count g c =
    let l = c.loop-k in
    let within : l.k < length c.args.groups.now = omega (arith, c.loop-k-test.true, c.requires.within) in
    let is : get_or (groups_of g.E.Entry.item c.args.groups.now) l.k [] ≡ leaf_lists g.E.Entry.item c.as_slice-pages.result.now =
    part_at (branch_parts g.E.Entry.item) c.args.groups.now l.k c.index-groups-k.result within c.index-groups-k.is
    ∙ ap (map (leaf_list g.E.Entry.item)) (sym (c.as_slice-pages.ensures.value ∙ ap (λ v. v.items) c.deref.ensures)) in
    let all : c.start_in_pages-count.result ≡ length (flattened (leaf_lists g.E.Entry.item c.as_slice-pages.result.now)) = c.start_in_pages-count.ensures ∙ start_end (leaf_lists g.E.Entry.item c.as_slice-pages.result.now) _ (omega (arith, length-map c.as_slice-pages.result.now (leaf_list g.E.Entry.item))) in
    omega (arith, group_fits (groups_of g.E.Entry.item c.args.groups.now) l.k (leaf_lists g.E.Entry.item c.as_slice-pages.result.now) (omega (arith, within, length-map c.args.groups.now (branch_parts g.E.Entry.item))) is, l.invariant.counted, all, c.requires.few)

pub loop-k-preserved : goal.loop-k-preserved
loop-k-preserved g c =
    let l = c.loop-k in
    let within : l.k < length c.args.groups.now = omega (arith, c.loop-k-test.true, c.requires.within) in
    let is : get_or (groups_of g.E.Entry.item c.args.groups.now) l.k [] ≡ leaf_lists g.E.Entry.item c.as_slice-pages.result.now =
    part_at (branch_parts g.E.Entry.item) c.args.groups.now l.k c.index-groups-k.result within c.index-groups-k.is
    ∙ ap (map (leaf_list g.E.Entry.item)) (sym (c.as_slice-pages.ensures.value ∙ ap (λ v. v.items) c.deref.ensures)) in
    let all : c.start_in_pages-count.result ≡ length (flattened (leaf_lists g.E.Entry.item c.as_slice-pages.result.now)) = c.start_in_pages-count.ensures ∙ start_end (leaf_lists g.E.Entry.item c.as_slice-pages.result.now) _ (omega (arith, length-map c.as_slice-pages.result.now (leaf_list g.E.Entry.item))) in
    record {
      within = omega (arith, c.loop-k-test.true);
      counted = omega (arith, group_next (groups_of g.E.Entry.item c.args.groups.now) l.k (leaf_lists g.E.Entry.item c.as_slice-pages.result.now) (omega (arith, within, length-map c.args.groups.now (branch_parts g.E.Entry.item))) is, l.invariant.counted, all);
    }
