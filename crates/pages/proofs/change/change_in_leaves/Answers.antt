use Rattle.std.proofs.Common.{◌/◌, arith}
use Rattle.std.proofs.lemmas.Result.{on_ok_weaker}
use Rattle.pages.specs.Pages.{leaf_list}
use Rattle.pages.proofs.Pieces.{held_by, page_in, item_in_page, still_paged, vec_bound}
use Rattle.pages.proofs.Changes.{whole_changed, whole_others, whole_count}
use Rattle.pages.proofs.change.change_in_leaves.Goals as goal

pub index_mut-requires : goal.index_mut-requires
index_mut-requires g c =
    vec_bound c.args.leaves.now _ (page_in (leaf_list g.E.Entry.item) c.args.leaves.now.items c.args.at _ _ (held_by (leaf_list g.E.Entry.item) g.row.LEAF c.args.leaves.now.items c.args.at (omega (arith, c.requires.size.0)) c.requires.paged c.requires.held))

pub change_in_leaf-requires : goal.change_in_leaf-requires
change_in_leaf-requires g c =
    item_in_page (leaf_list g.E.Entry.item) c.args.leaves.now.items c.args.at _ _ c.index_mut.result.now (held_by (leaf_list g.E.Entry.item) g.row.LEAF c.args.leaves.now.items c.args.at (omega (arith, c.requires.size.0)) c.requires.paged c.requires.held) c.index_mut.ensures.value

pub returns-clause-ok : goal.returns-clause-ok
returns-clause-ok g c =
    on_ok_weaker c.change_in_leaf.result (whole_changed (leaf_list g.E.Entry.item) (g.C.Change.after c.args.change.now) g.row.LEAF c.args.leaves.now.items c.args.at c.index_mut.result.now c.change_in_leaf.new.leaf (omega (arith, c.requires.size.0)) c.requires.paged c.requires.held c.index_mut.ensures.value) c.change_in_leaf.ensures.ok

pub returns-clause-count : goal.returns-clause-count
returns-clause-count g c =
    whole_count (leaf_list g.E.Entry.item) c.args.leaves.now.items (c.args.at / g.row.LEAF) c.index_mut.result.now c.change_in_leaf.new.leaf (page_in (leaf_list g.E.Entry.item) c.args.leaves.now.items c.args.at _ _ (held_by (leaf_list g.E.Entry.item) g.row.LEAF c.args.leaves.now.items c.args.at (omega (arith, c.requires.size.0)) c.requires.paged c.requires.held)) c.index_mut.ensures.value c.change_in_leaf.ensures.count

pub returns-clause-paged : goal.returns-clause-paged
returns-clause-paged g c =
    still_paged (leaf_list g.E.Entry.item) g.row.LEAF c.args.leaves.now.items (c.args.at / g.row.LEAF) c.index_mut.result.now c.change_in_leaf.new.leaf c.requires.paged (page_in (leaf_list g.E.Entry.item) c.args.leaves.now.items c.args.at _ _ (held_by (leaf_list g.E.Entry.item) g.row.LEAF c.args.leaves.now.items c.args.at (omega (arith, c.requires.size.0)) c.requires.paged c.requires.held)) c.index_mut.ensures.value c.change_in_leaf.ensures.count

pub returns-clause-others : goal.returns-clause-others
returns-clause-others g c =
    whole_others (leaf_list g.E.Entry.item) g.row.LEAF c.args.leaves.now.items c.args.at c.index_mut.result.now c.change_in_leaf.new.leaf (omega (arith, c.requires.size.0)) c.requires.paged c.requires.held c.index_mut.ensures.value c.change_in_leaf.ensures.others
