use Rattle.std.proofs.Common.{◌∙◌, ◌≤◌, ◌<◌, length, sym, ap, subst}
use Rattle.std.proofs.lemmas.Result.{on_ok_weaker, on_err_weaker}
use Rattle.pages.specs.Pages.{Page, leaf_list}
use Rattle.pages.specs.Sorted.{IsGroup}
use Rattle.pages.proofs.Clones.{in_either}
use Rattle.pages.proofs.Pieces.{part_at, whole_same}
use Rattle.pages.proofs.Inserts.{page_insert, page_kept, kept_more, same_read, room_in, page_of, some_set}
use Rattle.std.specs.Arc.{arc_value}
use Rattle.pages.proofs.edit.insert_in_pages.Goals as goal

pub returns-then-len-lt-FULL-clause-ok : goal.returns-then-len-lt-FULL-clause-ok
returns-then-len-lt-FULL-clause-ok g c =
    let within : c.args.spot.page < length c.args.pages.now.items = page_of (leaf_list g.E.Entry.item) c.args.pages.now.items c.args.spot c.requires.group c.requires.spot in
    let inside : c.args.spot.at ≤ length (leaf_list g.E.Entry.item c.index_mut.result.now) = subst (λ l. c.args.spot.at ≤ length l) (part_at (leaf_list g.E.Entry.item) c.args.pages.now.items c.args.spot.page c.index_mut.result.now within c.index_mut.ensures.value) c.requires.spot.at_in in
    on_ok_weaker c.insert_in_page.result (page_insert (leaf_list g.E.Entry.item) c.args.pages.now.items c.args.spot.page c.index_mut.result.now within c.index_mut.ensures.value c.insert_in_page.new.page c.args.spot.at (g.E.Entry.item c.args.x) inside) c.insert_in_page.ensures.ok

pub returns-then-len-lt-FULL-clause-err : goal.returns-then-len-lt-FULL-clause-err
returns-then-len-lt-FULL-clause-err g c =
    let within : c.args.spot.page < length c.args.pages.now.items = page_of (leaf_list g.E.Entry.item) c.args.pages.now.items c.args.spot c.requires.group c.requires.spot in
    on_err_weaker c.insert_in_page.result (whole_same (leaf_list g.E.Entry.item) c.args.pages.now.items c.args.spot.page c.index_mut.result.now c.insert_in_page.new.page within c.index_mut.ensures.value) c.insert_in_page.ensures.err

pub returns-then-len-lt-FULL-clause-group : goal.returns-then-len-lt-FULL-clause-group
returns-then-len-lt-FULL-clause-group g c =
    let within : c.args.spot.page < length c.args.pages.now.items = page_of (leaf_list g.E.Entry.item) c.args.pages.now.items c.args.spot c.requires.group c.requires.spot in
    let inside : c.args.spot.at ≤ length (leaf_list g.E.Entry.item c.index_mut.result.now) = subst (λ l. c.args.spot.at ≤ length l) (part_at (leaf_list g.E.Entry.item) c.args.pages.now.items c.args.spot.page c.index_mut.result.now within c.index_mut.ensures.value) c.requires.spot.at_in in
    let room : length (leaf_list g.E.Entry.item c.index_mut.result.now) < 128 = room_in g.E.Entry.item c.index_mut.result.now c.deref.result.now c.len.result (c.deref.ensures ∙ ap (λ (a : Page _). arc_value a) (same_read c.args.pages.now.items c.args.spot.page c.index.result.now c.index_mut.result.now within c.index.ensures c.index_mut.ensures.value)) c.len.ensures c.if-len-lt-FULL.true in
    in_either c.insert_in_page.result
    (λ e. (some_set (leaf_list g.E.Entry.item) c.args.pages.now.items c.args.spot.page c.insert_in_page.new.page c.requires.group.0, page_kept (leaf_list g.E.Entry.item) c.args.pages.now.items c.args.spot.page c.index_mut.result.now within c.index_mut.ensures.value c.insert_in_page.new.page c.requires.group.1 (kept_more (leaf_list g.E.Entry.item c.index_mut.result.now) (leaf_list g.E.Entry.item c.insert_in_page.new.page) c.args.spot.at (g.E.Entry.item c.args.x) inside room e)))
    (λ e. subst IsGroup (sym (whole_same (leaf_list g.E.Entry.item) c.args.pages.now.items c.args.spot.page c.index_mut.result.now c.insert_in_page.new.page within c.index_mut.ensures.value e)) c.requires.group)
    c.insert_in_page.ensures.ok c.insert_in_page.ensures.err
