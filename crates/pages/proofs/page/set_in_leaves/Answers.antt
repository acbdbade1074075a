use Rattle.std.proofs.Common.{◌∙◌, ◌/◌, ◌%◌, length, length-set, arith, ap}
use Rattle.std.proofs.lemmas.Result.{on_ok_weaker, on_err_weaker}
use Rattle.pages.specs.Pages.{leaf_list}
use Rattle.pages.proofs.Clones.{in_either}
use Rattle.pages.proofs.Pieces.{held_by, page_in, item_in_page, whole_set, whole_same, still_paged, vec_bound}
use Rattle.pages.proofs.page.set_in_leaves.Goals as goal

pub index_mut-requires : goal.index_mut-requires
index_mut-requires g c =
    vec_bound c.args.leaves.now _ (page_in (leaf_list g.E.Entry.item) c.args.leaves.now.items c.args.at _ _ (held_by (leaf_list g.E.Entry.item) g.row.LEAF c.args.leaves.now.items c.args.at (omega (arith, c.requires.size.0)) c.requires.paged c.requires.held))

pub set_in_leaf-requires : goal.set_in_leaf-requires
set_in_leaf-requires g c =
    item_in_page (leaf_list g.E.Entry.item) c.args.leaves.now.items c.args.at _ _ c.index_mut.result.now (held_by (leaf_list g.E.Entry.item) g.row.LEAF c.args.leaves.now.items c.args.at (omega (arith, c.requires.size.0)) c.requires.paged c.requires.held) c.index_mut.ensures.value

pub returns-clause-ok : goal.returns-clause-ok
returns-clause-ok g c =
    on_ok_weaker c.set_in_leaf.result (whole_set (leaf_list g.E.Entry.item) g.row.LEAF c.args.leaves.now.items c.args.at c.index_mut.result.now c.set_in_leaf.new.leaf (g.E.Entry.item c.args.x) (omega (arith, c.requires.size.0)) c.requires.paged c.requires.held c.index_mut.ensures.value) c.set_in_leaf.ensures.ok

pub returns-clause-err : goal.returns-clause-err
returns-clause-err g c =
    on_err_weaker c.set_in_leaf.result (whole_same (leaf_list g.E.Entry.item) c.args.leaves.now.items (c.args.at / g.row.LEAF) c.index_mut.result.now c.set_in_leaf.new.leaf (page_in (leaf_list g.E.Entry.item) c.args.leaves.now.items c.args.at _ _ (held_by (leaf_list g.E.Entry.item) g.row.LEAF c.args.leaves.now.items c.args.at (omega (arith, c.requires.size.0)) c.requires.paged c.requires.held)) c.index_mut.ensures.value) c.set_in_leaf.ensures.err

pub returns-clause-paged : goal.returns-clause-paged
returns-clause-paged g c =
    still_paged (leaf_list g.E.Entry.item) g.row.LEAF c.args.leaves.now.items (c.args.at / g.row.LEAF) c.index_mut.result.now c.set_in_leaf.new.leaf c.requires.paged (page_in (leaf_list g.E.Entry.item) c.args.leaves.now.items c.args.at _ _ (held_by (leaf_list g.E.Entry.item) g.row.LEAF c.args.leaves.now.items c.args.at (omega (arith, c.requires.size.0)) c.requires.paged c.requires.held)) c.index_mut.ensures.value
    (in_either c.set_in_leaf.result (λ e. ap length e ∙ length-set (leaf_list g.E.Entry.item c.index_mut.result.now) (c.args.at % g.row.LEAF) (g.E.Entry.item c.args.x)) (λ e. ap length e) c.set_in_leaf.ensures.ok c.set_in_leaf.ensures.err)
