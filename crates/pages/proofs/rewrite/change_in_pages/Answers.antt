use Rattle.std.proofs.Common.{◌<◌, [], map, length, arith, ap, subst}
use Rattle.std.proofs.lemmas.Result.{on_ok_weaker, on_err_weaker}
use Rattle.std.proofs.lemmas.List.{length-map}
use Rattle.pages.specs.Pages.{leaf_list}
use Rattle.pages.specs.Sorted.{MakesPage}
use Rattle.pages.proofs.Clones.{in_either}
use Rattle.pages.proofs.Changes.{changed_count}
use Rattle.pages.proofs.Pieces.{part_at, whole_same, vec_bound}
use Rattle.pages.proofs.Spots.{part_in}
use Rattle.pages.proofs.Inserts.{some_set, page_change_spot, page_kept, kept_same}
use Rattle.pages.proofs.rewrite.change_in_pages.Goals as goal

pub index_mut-requires : goal.index_mut-requires
index_mut-requires g c =
    let among : c.args.spot.page < length (map (leaf_list g.E.Entry.item) c.args.pages.now.items) = part_in (map (leaf_list g.E.Entry.item) c.args.pages.now.items) c.args.spot.page c.args.spot.at c.requires.entry in
    vec_bound c.args.pages.now c.args.spot.page (omega (arith, length-map c.args.pages.now.items (leaf_list g.E.Entry.item)))

pub change_in_page-requires : goal.change_in_page-requires
change_in_page-requires g c =
    let among : c.args.spot.page < length (map (leaf_list g.E.Entry.item) c.args.pages.now.items) = part_in (map (leaf_list g.E.Entry.item) c.args.pages.now.items) c.args.spot.page c.args.spot.at c.requires.entry in
    let within : c.args.spot.page < length c.args.pages.now.items = omega (arith, length-map c.args.pages.now.items (leaf_list g.E.Entry.item)) in
    subst (λ l. c.args.spot.at < length l) (part_at (leaf_list g.E.Entry.item) c.args.pages.now.items c.args.spot.page c.index_mut.result.now within c.index_mut.ensures.value) c.requires.entry

pub returns-clause-ok : goal.returns-clause-ok
returns-clause-ok g c =
    let among : c.args.spot.page < length (map (leaf_list g.E.Entry.item) c.args.pages.now.items) = part_in (map (leaf_list g.E.Entry.item) c.args.pages.now.items) c.args.spot.page c.args.spot.at c.requires.entry in
    let within : c.args.spot.page < length c.args.pages.now.items = omega (arith, length-map c.args.pages.now.items (leaf_list g.E.Entry.item)) in
    let inside : c.args.spot.at < length (leaf_list g.E.Entry.item c.index_mut.result.now) = subst (λ l. c.args.spot.at < length l) (part_at (leaf_list g.E.Entry.item) c.args.pages.now.items c.args.spot.page c.index_mut.result.now within c.index_mut.ensures.value) c.requires.entry in
    on_ok_weaker c.change_in_page.result (page_change_spot (leaf_list g.E.Entry.item) c.args.pages.now.items c.args.spot.page c.index_mut.result.now c.change_in_page.new.page c.args.spot.at (g.C.WholeChange.after c.args.change.now) within c.index_mut.ensures.value inside) c.change_in_page.ensures.ok

pub returns-clause-err : goal.returns-clause-err
returns-clause-err g c =
    let among : c.args.spot.page < length (map (leaf_list g.E.Entry.item) c.args.pages.now.items) = part_in (map (leaf_list g.E.Entry.item) c.args.pages.now.items) c.args.spot.page c.args.spot.at c.requires.entry in
    let within : c.args.spot.page < length c.args.pages.now.items = omega (arith, length-map c.args.pages.now.items (leaf_list g.E.Entry.item)) in
    on_err_weaker c.change_in_page.result (whole_same (leaf_list g.E.Entry.item) c.args.pages.now.items c.args.spot.page c.index_mut.result.now c.change_in_page.new.page within c.index_mut.ensures.value) c.change_in_page.ensures.err

pub returns-clause-group : goal.returns-clause-group
returns-clause-group g c =
    let among : c.args.spot.page < length (map (leaf_list g.E.Entry.item) c.args.pages.now.items) = part_in (map (leaf_list g.E.Entry.item) c.args.pages.now.items) c.args.spot.page c.args.spot.at c.requires.entry in
    let within : c.args.spot.page < length c.args.pages.now.items = omega (arith, length-map c.args.pages.now.items (leaf_list g.E.Entry.item)) in
    let inside : c.args.spot.at < length (leaf_list g.E.Entry.item c.index_mut.result.now) = subst (λ l. c.args.spot.at < length l) (part_at (leaf_list g.E.Entry.item) c.args.pages.now.items c.args.spot.page c.index_mut.result.now within c.index_mut.ensures.value) c.requires.entry in
    let was : MakesPage (leaf_list g.E.Entry.item c.index_mut.result.now) = subst MakesPage (part_at (leaf_list g.E.Entry.item) c.args.pages.now.items c.args.spot.page c.index_mut.result.now within c.index_mut.ensures.value) (c.requires.group.1 c.args.spot.page [] among) in (
      some_set (leaf_list g.E.Entry.item) c.args.pages.now.items c.args.spot.page c.change_in_page.new.page c.requires.group.0,
      page_kept (leaf_list g.E.Entry.item) c.args.pages.now.items c.args.spot.page c.index_mut.result.now within c.index_mut.ensures.value c.change_in_page.new.page c.requires.group.1
          (kept_same (leaf_list g.E.Entry.item c.index_mut.result.now) (leaf_list g.E.Entry.item c.change_in_page.new.page) was
          (in_either c.change_in_page.result (changed_count (g.C.WholeChange.after c.args.change.now) (leaf_list g.E.Entry.item c.index_mut.result.now) c.args.spot.at (leaf_list g.E.Entry.item c.change_in_page.new.page) inside) (λ e. ap length e) c.change_in_page.ensures.ok c.change_in_page.ensures.err)),
    )
