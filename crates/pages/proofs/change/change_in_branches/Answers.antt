use Rattle.std.proofs.Common.{◌*◌, ◌/◌, arith}
use Rattle.std.proofs.lemmas.Result.{on_ok_weaker}
use Rattle.std.proofs.lemmas.List.Elements.{All-set}
use Rattle.pages.specs.Pages.{branch_list, IsBranch}
use Rattle.pages.proofs.Pieces.{held_by, page_in, item_in_page, still_paged, vec_bound, all_read}
use Rattle.pages.proofs.Changes.{whole_changed, whole_others, whole_count}
use Rattle.pages.proofs.change.change_in_branches.Goals as goal

pub index_mut-requires : goal.index_mut-requires
index_mut-requires g c =
    vec_bound c.args.branches.now _ (page_in (branch_list g.E.Entry.item) c.args.branches.now.items c.args.at _ _ (held_by (branch_list g.E.Entry.item) (g.row.LEAF * 128) c.args.branches.now.items c.args.at (omega (arith, c.requires.size.0)) c.requires.branches.paged c.requires.held))

pub change_in_branch-requires-clause-paged : goal.change_in_branch-requires-clause-paged
change_in_branch-requires-clause-paged g c =
    all_read (IsBranch g.E.Entry.item g.row.LEAF) c.args.branches.now.items (c.args.at / (g.row.LEAF * 128)) c.index_mut.result.now c.requires.branches.each (page_in (branch_list g.E.Entry.item) c.args.branches.now.items c.args.at _ _ (held_by (branch_list g.E.Entry.item) (g.row.LEAF * 128) c.args.branches.now.items c.args.at (omega (arith, c.requires.size.0)) c.requires.branches.paged c.requires.held)) c.index_mut.ensures.value

pub change_in_branch-requires-clause-held : goal.change_in_branch-requires-clause-held
change_in_branch-requires-clause-held g c =
    item_in_page (branch_list g.E.Entry.item) c.args.branches.now.items c.args.at _ _ c.index_mut.result.now (held_by (branch_list g.E.Entry.item) (g.row.LEAF * 128) c.args.branches.now.items c.args.at (omega (arith, c.requires.size.0)) c.requires.branches.paged c.requires.held) c.index_mut.ensures.value

pub returns-clause-ok : goal.returns-clause-ok
returns-clause-ok g c =
    on_ok_weaker c.change_in_branch.result (whole_changed (branch_list g.E.Entry.item) (g.C.Change.after c.args.change.now) (g.row.LEAF * 128) c.args.branches.now.items c.args.at c.index_mut.result.now c.change_in_branch.new.branch (omega (arith, c.requires.size.0)) c.requires.branches.paged c.requires.held c.index_mut.ensures.value) c.change_in_branch.ensures.ok

pub returns-clause-count : goal.returns-clause-count
returns-clause-count g c =
    whole_count (branch_list g.E.Entry.item) c.args.branches.now.items (c.args.at / (g.row.LEAF * 128)) c.index_mut.result.now c.change_in_branch.new.branch (page_in (branch_list g.E.Entry.item) c.args.branches.now.items c.args.at _ _ (held_by (branch_list g.E.Entry.item) (g.row.LEAF * 128) c.args.branches.now.items c.args.at (omega (arith, c.requires.size.0)) c.requires.branches.paged c.requires.held)) c.index_mut.ensures.value c.change_in_branch.ensures.count

pub returns-clause-branches : goal.returns-clause-branches
returns-clause-branches g c = record {
  paged = still_paged (branch_list g.E.Entry.item) (g.row.LEAF * 128) c.args.branches.now.items (c.args.at / (g.row.LEAF * 128)) c.index_mut.result.now c.change_in_branch.new.branch c.requires.branches.paged (page_in (branch_list g.E.Entry.item) c.args.branches.now.items c.args.at _ _ (held_by (branch_list g.E.Entry.item) (g.row.LEAF * 128) c.args.branches.now.items c.args.at (omega (arith, c.requires.size.0)) c.requires.branches.paged c.requires.held)) c.index_mut.ensures.value c.change_in_branch.ensures.count;
  each = All-set (IsBranch g.E.Entry.item g.row.LEAF) c.args.branches.now.items (c.args.at / (g.row.LEAF * 128)) c.change_in_branch.new.branch c.change_in_branch.ensures.paged c.requires.branches.each;
}

pub returns-clause-others : goal.returns-clause-others
returns-clause-others g c =
    whole_others (branch_list g.E.Entry.item) (g.row.LEAF * 128) c.args.branches.now.items c.args.at c.index_mut.result.now c.change_in_branch.new.branch (omega (arith, c.requires.size.0)) c.requires.branches.paged c.requires.held c.index_mut.ensures.value c.change_in_branch.ensures.others
