use Rattle.std.proofs.Common.{◌*◌, ◌∙◌, ◌<◌, ◌≤◌, ◌/◌, List, map, length, ap, sym, subst, arith}
use Rattle.std.proofs.lemmas.Result.{on_ok_weaker, on_err_weaker}
use Rattle.std.proofs.lemmas.List.Elements.{All-set, All-push}
use Rattle.pages.specs.Pages.{Page, branch_list, flattened, IsBranch, AreBranches}
use Rattle.pages.proofs.Clones.{in_either}
use Rattle.pages.proofs.Pieces.{room_len, branch_new, is_branch_new, whole_push, page_push, whole_same, still_paged, vec_room, vec_full}
use Rattle.pages.proofs.page.push_to_branches.Goals as goal

pub push_to_branch-requires-clause-end : goal.push_to_branch-requires-clause-end
push_to_branch-requires-clause-end g c =
    let room : c.args.at / (g.row.LEAF * 128) < length c.args.branches.now.items = vec_room c.args.branches.now _ c.len.result c.len.ensures c.if-at-len.true in
    room_len (branch_list g.E.Entry.item) (g.row.LEAF * 128) c.args.branches.now.items c.args.at (g.E.Entry.item c.args.x) c.index_mut.result.now (omega (arith, c.requires.size.0)) c.requires.branches.paged c.requires.end room c.index_mut.ensures.value

pub returns-then-at-len-clause-ok : goal.returns-then-at-len-clause-ok
returns-then-at-len-clause-ok g c =
    let room : c.args.at / (g.row.LEAF * 128) < length c.args.branches.now.items = vec_room c.args.branches.now _ c.len.result c.len.ensures c.if-at-len.true in
    on_ok_weaker c.push_to_branch.result (λ e. (whole_push (branch_list g.E.Entry.item) (g.row.LEAF * 128) c.args.branches.now.items c.args.at c.index_mut.result.now c.push_to_branch.new.branch (g.E.Entry.item c.args.x) (omega (arith, c.requires.size.0)) c.requires.branches.paged c.requires.end room c.index_mut.ensures.value e).0) c.push_to_branch.ensures.ok

pub returns-then-at-len-clause-err : goal.returns-then-at-len-clause-err
returns-then-at-len-clause-err g c =
    let room : c.args.at / (g.row.LEAF * 128) < length c.args.branches.now.items = vec_room c.args.branches.now _ c.len.result c.len.ensures c.if-at-len.true in
    on_err_weaker c.push_to_branch.result (λ e. ap flattened (whole_same (branch_list g.E.Entry.item) c.args.branches.now.items (c.args.at / (g.row.LEAF * 128)) c.index_mut.result.now c.push_to_branch.new.branch room c.index_mut.ensures.value e)) c.push_to_branch.ensures.err

pub returns-then-at-len-clause-branches : goal.returns-then-at-len-clause-branches
returns-then-at-len-clause-branches g c =
    let room : c.args.at / (g.row.LEAF * 128) < length c.args.branches.now.items = vec_room c.args.branches.now _ c.len.result c.len.ensures c.if-at-len.true in
    record {
      paged = in_either c.push_to_branch.result
          (λ e. (whole_push (branch_list g.E.Entry.item) (g.row.LEAF * 128) c.args.branches.now.items c.args.at c.index_mut.result.now c.push_to_branch.new.branch (g.E.Entry.item c.args.x) (omega (arith, c.requires.size.0)) c.requires.branches.paged c.requires.end room c.index_mut.ensures.value e).1)
          (λ e. still_paged (branch_list g.E.Entry.item) (g.row.LEAF * 128) c.args.branches.now.items (c.args.at / (g.row.LEAF * 128)) c.index_mut.result.now c.push_to_branch.new.branch c.requires.branches.paged room c.index_mut.ensures.value (ap length e))
          c.push_to_branch.ensures.ok c.push_to_branch.ensures.err;
      each = All-set (IsBranch g.E.Entry.item g.row.LEAF) c.args.branches.now.items (c.args.at / (g.row.LEAF * 128)) c.push_to_branch.new.branch c.push_to_branch.ensures.paged c.requires.branches.each;
    }

pub returns-clause-ok : goal.returns-clause-ok
returns-clause-ok g c =
    let full : length c.args.branches.now.items ≤ c.args.at / (g.row.LEAF * 128) = vec_full c.args.branches.now _ c.len.result c.len.ensures c.if-at-len.false in
    ap (λ l. flattened (map (branch_list g.E.Entry.item) l)) c.in_ok-push.ensures.items
    ∙ (page_push (branch_list g.E.Entry.item) (g.row.LEAF * 128) c.args.branches.now.items c.args.at c.in_ok-branch_of.field-0 (g.E.Entry.item c.args.x) (omega (arith, c.requires.size.0)) c.requires.branches.paged c.requires.end full (branch_new g.E.Entry.item c.in_ok-branch_of.field-0 _ c.in_ok-branch_of.ensures)).0

pub returns-clause-branches : goal.returns-clause-branches
returns-clause-branches g c =
    let full : length c.args.branches.now.items ≤ c.args.at / (g.row.LEAF * 128) = vec_full c.args.branches.now _ c.len.result c.len.ensures c.if-at-len.false in
    subst (λ (l : List (Page (Page _))). AreBranches g.E.Entry.item g.row.LEAF l) (sym c.in_ok-push.ensures.items)
    (record {
      paged = (page_push (branch_list g.E.Entry.item) (g.row.LEAF * 128) c.args.branches.now.items c.args.at c.in_ok-branch_of.field-0 (g.E.Entry.item c.args.x) (omega (arith, c.requires.size.0)) c.requires.branches.paged c.requires.end full (branch_new g.E.Entry.item c.in_ok-branch_of.field-0 _ c.in_ok-branch_of.ensures)).1;
      each = All-push (IsBranch g.E.Entry.item g.row.LEAF) c.args.branches.now.items c.in_ok-branch_of.field-0 c.requires.branches.each (is_branch_new g.E.Entry.item g.row.LEAF c.in_ok-branch_of.field-0 _ (omega (arith, c.requires.size.0)) c.in_ok-branch_of.ensures);
    })
