use Rattle.std.proofs.Common.{◌∙◌, ◌<◌, ◌≤◌, ◌/◌, map, length, ap, sym, subst, arith}
use Rattle.std.proofs.lemmas.Result.{on_ok_weaker, on_err_weaker}
use Rattle.pages.specs.Pages.{leaf_list, flattened, IsPaged}
use Rattle.pages.proofs.Clones.{in_either}
use Rattle.pages.proofs.Pieces.{whole_push, page_push, whole_same, still_paged, vec_room, vec_full}
use Rattle.pages.proofs.page.push_to_leaves.Goals as goal

pub returns-then-at-len-clause-ok : goal.returns-then-at-len-clause-ok
returns-then-at-len-clause-ok g c =
    let room : c.args.at / g.row.LEAF < length c.args.leaves.now.items = vec_room c.args.leaves.now _ c.len.result c.len.ensures c.if-at-len.true in
    on_ok_weaker c.push_to_leaf.result (λ e. (whole_push (leaf_list g.E.Entry.item) g.row.LEAF c.args.leaves.now.items c.args.at c.index_mut.result.now c.push_to_leaf.new.leaf (g.E.Entry.item c.args.x) (omega (arith, c.requires.size.0)) c.requires.paged c.requires.end room c.index_mut.ensures.value e).0) c.push_to_leaf.ensures.ok

pub returns-then-at-len-clause-err : goal.returns-then-at-len-clause-err
returns-then-at-len-clause-err g c =
    let room : c.args.at / g.row.LEAF < length c.args.leaves.now.items = vec_room c.args.leaves.now _ c.len.result c.len.ensures c.if-at-len.true in
    on_err_weaker c.push_to_leaf.result (whole_same (leaf_list g.E.Entry.item) c.args.leaves.now.items (c.args.at / g.row.LEAF) c.index_mut.result.now c.push_to_leaf.new.leaf room c.index_mut.ensures.value) c.push_to_leaf.ensures.err

pub returns-then-at-len-clause-paged : goal.returns-then-at-len-clause-paged
returns-then-at-len-clause-paged g c =
    let room : c.args.at / g.row.LEAF < length c.args.leaves.now.items = vec_room c.args.leaves.now _ c.len.result c.len.ensures c.if-at-len.true in
    in_either c.push_to_leaf.result
    (λ e. (whole_push (leaf_list g.E.Entry.item) g.row.LEAF c.args.leaves.now.items c.args.at c.index_mut.result.now c.push_to_leaf.new.leaf (g.E.Entry.item c.args.x) (omega (arith, c.requires.size.0)) c.requires.paged c.requires.end room c.index_mut.ensures.value e).1)
    (λ e. still_paged (leaf_list g.E.Entry.item) g.row.LEAF c.args.leaves.now.items (c.args.at / g.row.LEAF) c.index_mut.result.now c.push_to_leaf.new.leaf c.requires.paged room c.index_mut.ensures.value (ap length e))
    c.push_to_leaf.ensures.ok c.push_to_leaf.ensures.err

pub returns-clause-ok : goal.returns-clause-ok
returns-clause-ok g c =
    let full : length c.args.leaves.now.items ≤ c.args.at / g.row.LEAF = vec_full c.args.leaves.now _ c.len.result c.len.ensures c.if-at-len.false in
    ap (λ l. flattened (map (leaf_list g.E.Entry.item) l)) c.in_ok-push.ensures.items
    ∙ (page_push (leaf_list g.E.Entry.item) g.row.LEAF c.args.leaves.now.items c.args.at c.in_ok-leaf_of.field-0 (g.E.Entry.item c.args.x) (omega (arith, c.requires.size.0)) c.requires.paged c.requires.end full c.in_ok-leaf_of.ensures).0

pub returns-clause-paged : goal.returns-clause-paged
returns-clause-paged g c =
    let full : length c.args.leaves.now.items ≤ c.args.at / g.row.LEAF = vec_full c.args.leaves.now _ c.len.result c.len.ensures c.if-at-len.false in
    subst (λ l. IsPaged g.row.LEAF (map (leaf_list g.E.Entry.item) l)) (sym c.in_ok-push.ensures.items)
    (page_push (leaf_list g.E.Entry.item) g.row.LEAF c.args.leaves.now.items c.args.at c.in_ok-leaf_of.field-0 (g.E.Entry.item c.args.x) (omega (arith, c.requires.size.0)) c.requires.paged c.requires.end full c.in_ok-leaf_of.ensures).1
