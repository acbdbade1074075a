use Rattle.std.proofs.Common.{◌*◌, ◌∙◌, ◌/◌, ◌%◌, length, length-set, arith, ap}
use Rattle.std.proofs.lemmas.Result.{on_ok_weaker, on_err_weaker}
use Rattle.std.proofs.lemmas.List.Elements.{All-set}
use Rattle.pages.specs.Pages.{branch_list, IsBranch, flattened}
use Rattle.pages.proofs.Clones.{in_either}
use Rattle.pages.proofs.Pieces.{held_by, page_in, item_in_page, whole_set, whole_same, still_paged, vec_bound, all_read}
use Rattle.pages.proofs.page.set_in_branches.Goals as goal

pub index_mut-requires : goal.index_mut-requires
index_mut-requires g c =
    vec_bound c.args.branches.now _ (page_in (branch_list g.E.Entry.item) c.args.branches.now.items c.args.at _ _ (held_by (branch_list g.E.Entry.item) (g.row.LEAF * 128) c.args.branches.now.items c.args.at (omega (arith, c.requires.size.0)) c.requires.branches.paged c.requires.held))

pub set_in_branch-requires-clause-paged : goal.set_in_branch-requires-clause-paged
set_in_branch-requires-clause-paged g c =
    all_read (IsBranch g.E.Entry.item g.row.LEAF) c.args.branches.now.items (c.args.at / (g.row.LEAF * 128)) c.index_mut.result.now c.requires.branches.each (page_in (branch_list g.E.Entry.item) c.args.branches.now.items c.args.at _ _ (held_by (branch_list g.E.Entry.item) (g.row.LEAF * 128) c.args.branches.now.items c.args.at (omega (arith, c.requires.size.0)) c.requires.branches.paged c.requires.held)) c.index_mut.ensures.value

pub set_in_branch-requires-clause-held : goal.set_in_branch-requires-clause-held
set_in_branch-requires-clause-held g c =
    item_in_page (branch_list g.E.Entry.item) c.args.branches.now.items c.args.at _ _ c.index_mut.result.now (held_by (branch_list g.E.Entry.item) (g.row.LEAF * 128) c.args.branches.now.items c.args.at (omega (arith, c.requires.size.0)) c.requires.branches.paged c.requires.held) c.index_mut.ensures.value

pub returns-clause-ok : goal.returns-clause-ok
returns-clause-ok g c =
    on_ok_weaker c.set_in_branch.result (whole_set (branch_list g.E.Entry.item) (g.row.LEAF * 128) c.args.branches.now.items c.args.at c.index_mut.result.now c.set_in_branch.new.branch (g.E.Entry.item c.args.x) (omega (arith, c.requires.size.0)) c.requires.branches.paged c.requires.held c.index_mut.ensures.value) c.set_in_branch.ensures.ok

pub returns-clause-err : goal.returns-clause-err
returns-clause-err g c =
    on_err_weaker c.set_in_branch.result (λ e. ap flattened (whole_same (branch_list g.E.Entry.item) c.args.branches.now.items (c.args.at / (g.row.LEAF * 128)) c.index_mut.result.now c.set_in_branch.new.branch (page_in (branch_list g.E.Entry.item) c.args.branches.now.items c.args.at _ _ (held_by (branch_list g.E.Entry.item) (g.row.LEAF * 128) c.args.branches.now.items c.args.at (omega (arith, c.requires.size.0)) c.requires.branches.paged c.requires.held)) c.index_mut.ensures.value e)) c.set_in_branch.ensures.err

pub returns-clause-branches : goal.returns-clause-branches
returns-clause-branches g c = record {
  paged = still_paged (branch_list g.E.Entry.item) (g.row.LEAF * 128) c.args.branches.now.items (c.args.at / (g.row.LEAF * 128)) c.index_mut.result.now c.set_in_branch.new.branch c.requires.branches.paged (page_in (branch_list g.E.Entry.item) c.args.branches.now.items c.args.at _ _ (held_by (branch_list g.E.Entry.item) (g.row.LEAF * 128) c.args.branches.now.items c.args.at (omega (arith, c.requires.size.0)) c.requires.branches.paged c.requires.held)) c.index_mut.ensures.value
      (in_either c.set_in_branch.result (λ e. ap length e ∙ length-set (branch_list g.E.Entry.item c.index_mut.result.now) (c.args.at % (g.row.LEAF * 128)) (g.E.Entry.item c.args.x)) (λ e. ap length e) c.set_in_branch.ensures.ok c.set_in_branch.ensures.err);
  each = All-set (IsBranch g.E.Entry.item g.row.LEAF) c.args.branches.now.items (c.args.at / (g.row.LEAF * 128)) c.set_in_branch.new.branch c.set_in_branch.ensures.paged c.requires.branches.each;
}
