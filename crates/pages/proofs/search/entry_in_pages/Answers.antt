use Rattle.std.proofs.Common.{◌<◌, ◌∙◌, List, map, length, slice_get, arith, sym, ap, subst}
use Rattle.std.proofs.lemmas.List.{length-map}
use Rattle.pages.specs.Pages.{leaf_list}
use Rattle.pages.proofs.Pieces.{part_at}
use Rattle.pages.proofs.Spots.{got_at, part_in}
use Rattle.pages.proofs.search.entry_in_pages.Goals as goal

pub bounds-pages-spot : goal.bounds-pages-spot
bounds-pages-spot g c =
    omega (arith, part_in (map (leaf_list g.E.Entry.item) c.args.pages.now) c.args.spot.page c.args.spot.at c.requires, length-map c.args.pages.now (leaf_list g.E.Entry.item))

pub entry_of-requires : goal.entry_of-requires
entry_of-requires g c =
    let within : c.args.spot.page < length c.args.pages.now = omega (arith, part_in (map (leaf_list g.E.Entry.item) c.args.pages.now) c.args.spot.page c.args.spot.at c.requires, length-map c.args.pages.now (leaf_list g.E.Entry.item)) in
    rw (c.as_slice.ensures.value, c.deref.ensures)
    (subst (λ l. c.args.spot.at < length l) (part_at (leaf_list g.E.Entry.item) c.args.pages.now c.args.spot.page c.index-pages-spot.result within c.index-pages-spot.is) c.requires)

pub returns : goal.returns
returns g c =
    let within : c.args.spot.page < length c.args.pages.now = omega (arith, part_in (map (leaf_list g.E.Entry.item) c.args.pages.now) c.args.spot.page c.args.spot.at c.requires, length-map c.args.pages.now (leaf_list g.E.Entry.item)) in
    got_at (map (leaf_list g.E.Entry.item) c.args.pages.now) c.args.spot.page c.args.spot.at c.requires
    ∙ (ap (λ l. slice_get l c.args.spot.at) (part_at (leaf_list g.E.Entry.item) c.args.pages.now c.args.spot.page c.index-pages-spot.result within c.index-pages-spot.is)
    ∙ (ap (λ (l : List _). slice_get (map g.E.Entry.item l) c.args.spot.at) (sym (c.as_slice.ensures.value ∙ ap (λ v. v.items) c.deref.ensures)) ∙ c.entry_of.ensures))
