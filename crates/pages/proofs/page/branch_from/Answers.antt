use Rattle.std.proofs.Common.{◌<◌, ◌∙◌, ◌%◌, length, drop, arith, ap}
use Rattle.std.proofs.lemmas.List.{length-map}
use Rattle.pages.specs.Pages.{leaf_list}
use Rattle.pages.proofs.Pieces.{held_by, page_in, item_in_page, prefix_in, leaf_prefix, leaf_held}
use Rattle.pages.proofs.page.branch_from.Goals as goal

pub bounds-branch-at : goal.bounds-branch-at
bounds-branch-at g c =
    page_in (leaf_list g.E.Entry.item) c.args.branch.now c.args.at _ _ (held_by (leaf_list g.E.Entry.item) g.row.LEAF c.args.branch.now c.args.at (omega (arith, c.requires.size.0)) c.requires.paged c.requires.held)

pub leaf_from-requires : goal.leaf_from-requires
leaf_from-requires g c =
    let h : c.args.at % g.row.LEAF < length (leaf_list g.E.Entry.item c.index-branch-at.result) = item_in_page (leaf_list g.E.Entry.item) c.args.branch.now c.args.at _ _ c.index-branch-at.result (held_by (leaf_list g.E.Entry.item) g.row.LEAF c.args.branch.now c.args.at (omega (arith, c.requires.size.0)) c.requires.paged c.requires.held) c.index-branch-at.is in
    rw (c.as_slice.ensures.value, c.deref.ensures) (omega (arith, length-map c.index-branch-at.result.value.items g.E.Entry.item))

pub returns-clause-some : goal.returns-clause-some
returns-clause-some g c =
    leaf_held g.E.Entry.item c.index-branch-at.result.value.items c.leaf_from.result.now (c.args.at % g.row.LEAF) (item_in_page (leaf_list g.E.Entry.item) c.args.branch.now c.args.at _ _ c.index-branch-at.result (held_by (leaf_list g.E.Entry.item) g.row.LEAF c.args.branch.now c.args.at (omega (arith, c.requires.size.0)) c.requires.paged c.requires.held) c.index-branch-at.is)
    (c.leaf_from.ensures ∙ ap (drop (c.args.at % g.row.LEAF)) (c.as_slice.ensures.value ∙ ap (λ v. v.items) c.deref.ensures))

pub returns-clause-prefix : goal.returns-clause-prefix
returns-clause-prefix g c =
    prefix_in (leaf_list g.E.Entry.item) c.args.branch.now c.args.at _ _ c.index-branch-at.result _ (held_by (leaf_list g.E.Entry.item) g.row.LEAF c.args.branch.now c.args.at (omega (arith, c.requires.size.0)) c.requires.paged c.requires.held) c.index-branch-at.is
    (leaf_prefix g.E.Entry.item c.index-branch-at.result.value.items c.leaf_from.result.now (c.args.at % g.row.LEAF) (c.leaf_from.ensures ∙ ap (drop (c.args.at % g.row.LEAF)) (c.as_slice.ensures.value ∙ ap (λ v. v.items) c.deref.ensures)))

pub offset_bounds-branch-at : goal.offset_bounds-branch-at
offset_bounds-branch-at g c = grind (arith, c.requires.size.0, c.ranges.at.fits)
