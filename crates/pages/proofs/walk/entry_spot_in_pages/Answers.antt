use Rattle.std.proofs.Common.{◌≡◌, ◌<◌, ◌∙◌, [], map, length, get_or, arith, sym, ap}
use Rattle.std.proofs.lemmas.List.{length-map}
use Rattle.pages.specs.Pages.{leaf_list}
use Rattle.pages.proofs.Pieces.{part_at}
use Rattle.pages.proofs.Inserts.{page_of, page_len}
use Rattle.pages.proofs.Walks.{turned_page, last_page}
use Rattle.pages.proofs.walk.entry_spot_in_pages.Goals as goal

pub returns-then-page-pages-clause-same : goal.returns-then-page-pages-clause-same
returns-then-page-pages-clause-same g c =
    let within : c.args.spot.page < length c.args.pages.now = page_of (leaf_list g.E.Entry.item) c.args.pages.now c.args.spot c.requires.group c.requires.spot in
    let e : c.len.result ≡ length (get_or (map (leaf_list g.E.Entry.item) c.args.pages.now) c.args.spot.page []) =
    page_len g.E.Entry.item c.index-pages-page.result c.deref.result.now c.len.result c.deref.ensures c.len.ensures
    ∙ ap length (sym (part_at (leaf_list g.E.Entry.item) c.args.pages.now c.args.spot.page c.index-pages-page.result within c.index-pages-page.is)) in
    (turned_page (map (leaf_list g.E.Entry.item) c.args.pages.now) c.args.spot c.requires.group c.requires.spot c.len.result e c.if-at-len.false (omega (arith, c.if-page-pages.true, length-map c.args.pages.now (leaf_list g.E.Entry.item))) c.args.spot.group).1

pub returns-clause-none : goal.returns-clause-none
returns-clause-none g c =
    let within : c.args.spot.page < length c.args.pages.now = page_of (leaf_list g.E.Entry.item) c.args.pages.now c.args.spot c.requires.group c.requires.spot in
    let e : c.len.result ≡ length (get_or (map (leaf_list g.E.Entry.item) c.args.pages.now) c.args.spot.page []) =
    page_len g.E.Entry.item c.index-pages-page.result c.deref.result.now c.len.result c.deref.ensures c.len.ensures
    ∙ ap length (sym (part_at (leaf_list g.E.Entry.item) c.args.pages.now c.args.spot.page c.index-pages-page.result within c.index-pages-page.is)) in
    last_page (map (leaf_list g.E.Entry.item) c.args.pages.now) c.args.spot c.requires.group c.requires.spot c.len.result e c.if-at-len.false (omega (arith, c.if-page-pages.false, length-map c.args.pages.now (leaf_list g.E.Entry.item)))
