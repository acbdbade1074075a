use Rattle.std.proofs.Common.{◌*◌, ◌<◌, ◌∙◌, ◌/◌, ◌%◌, List, length, map, drop, arith, sym, ap, subst}
use Rattle.pages.specs.Pages.{Page, leaf_list, branch_list, flattened, IsBranch, IsPrefix}
use Rattle.pages.proofs.Pieces.{held_by, page_in, item_in_page, prefix_in}
use Rattle.pages.proofs.page.top_from.Goals as goal

pub bounds-top-at : goal.bounds-top-at
bounds-top-at g c =
    page_in (branch_list g.E.Entry.item) c.args.top.now c.args.at _ _ (held_by (branch_list g.E.Entry.item) (g.row.LEAF * 128) c.args.top.now c.args.at (omega (arith, c.requires.size.0)) c.requires.branches.paged c.requires.held)

pub branch_from-requires-clause-paged : goal.branch_from-requires-clause-paged
branch_from-requires-clause-paged g c =
    let in_top : c.args.at / (g.row.LEAF * 128) < length c.args.top.now = page_in (branch_list g.E.Entry.item) c.args.top.now c.args.at _ _ (held_by (branch_list g.E.Entry.item) (g.row.LEAF * 128) c.args.top.now c.args.at (omega (arith, c.requires.size.0)) c.requires.branches.paged c.requires.held) in
    let h : IsBranch g.E.Entry.item g.row.LEAF c.index-top-at.result = subst (IsBranch g.E.Entry.item g.row.LEAF) (sym c.index-top-at.is) (c.requires.branches.each (c.args.at / (g.row.LEAF * 128)) c.index-top-at.result in_top) in
    rw (c.as_slice.ensures.value, c.deref.ensures) h

pub branch_from-requires-clause-held : goal.branch_from-requires-clause-held
branch_from-requires-clause-held g c =
    rw (c.as_slice.ensures.value, c.deref.ensures)
    (item_in_page (branch_list g.E.Entry.item) c.args.top.now c.args.at _ _ c.index-top-at.result (held_by (branch_list g.E.Entry.item) (g.row.LEAF * 128) c.args.top.now c.args.at (omega (arith, c.requires.size.0)) c.requires.branches.paged c.requires.held) c.index-top-at.is)

pub returns-clause-prefix : goal.returns-clause-prefix
returns-clause-prefix g c =
    prefix_in (branch_list g.E.Entry.item) c.args.top.now c.args.at _ _ c.index-top-at.result _ (held_by (branch_list g.E.Entry.item) (g.row.LEAF * 128) c.args.top.now c.args.at (omega (arith, c.requires.size.0)) c.requires.branches.paged c.requires.held) c.index-top-at.is
    (subst (λ (l : List (Page _)). IsPrefix (map g.E.Entry.item c.branch_from.result.now) (drop (c.args.at % (g.row.LEAF * 128)) (flattened (map (leaf_list g.E.Entry.item) l)))) (c.as_slice.ensures.value ∙ ap (λ v. v.items) c.deref.ensures) c.branch_from.ensures.prefix)
