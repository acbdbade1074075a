use Rattle.std.proofs.Common.{◌∙◌, ◌≡◌, map, length, sym, ap, subst, arith}
use Rattle.std.specs.List.{insert}
use Rattle.std.proofs.lemmas.List.{length-map}
use Rattle.pages.specs.Pages.{leaf_list, flattened}
use Rattle.pages.specs.Sorted.{IsGroup, IsSpotIn, place_in}
use Rattle.pages.proofs.Clones.{pages_clone}
use Rattle.pages.proofs.GroupWrites.{flattened_halves, group_halves}
use Rattle.pages.proofs.edit.group_halves_with.Goals as goal

pub insert_in_pages-requires-clause-group : goal.insert_in_pages-requires-clause-group
insert_in_pages-requires-clause-group g c =
    subst IsGroup (sym (pages_clone g.E.Entry.item c.args.group.now.items c.in_ok-left.left.items c.in_ok-left.ensures.cases.0)) c.requires.group

pub insert_in_pages-requires-clause-spot : goal.insert_in_pages-requires-clause-spot
insert_in_pages-requires-clause-spot g c =
    subst (λ l. IsSpotIn l c.args.spot) (sym (pages_clone g.E.Entry.item c.args.group.now.items c.in_ok-left.left.items c.in_ok-left.ensures.cases.0)) c.requires.spot

pub returns-clause-whole : goal.returns-clause-whole
returns-clause-whole g c =
    flattened_halves (leaf_list g.E.Entry.item) c.insert_in_pages.new.pages.items c.split_off.new.self.items c.in_ok-right.right.items 64 c.in_ok-right.ensures.items c.in_ok-right.ensures.tail
    ∙ (c.in_ok-insert_in_pages.ensures.ok
    ∙ ap (λ l. insert (flattened l) (place_in l c.args.spot) (g.E.Entry.item c.args.x)) (pages_clone g.E.Entry.item c.args.group.now.items c.in_ok-left.left.items c.in_ok-left.ensures.cases.0))

pub returns-clause-groups : goal.returns-clause-groups
returns-clause-groups g c =
    let same : length (map (leaf_list g.E.Entry.item) c.in_ok-left.left.items) ≡ length (map (leaf_list g.E.Entry.item) c.args.group.now.items) =
    ap length (pages_clone g.E.Entry.item c.args.group.now.items c.in_ok-left.left.items c.in_ok-left.ensures.cases.0) in
    rw (c.in_ok-right.ensures.items, c.in_ok-right.ensures.tail)
    (group_halves (leaf_list g.E.Entry.item) c.insert_in_pages.new.pages.items
    (omega (arith, c.in_ok-insert_in_pages.ensures.longer, length-map c.in_ok-left.left.items (leaf_list g.E.Entry.item), length-map c.args.group.now.items (leaf_list g.E.Entry.item), c.requires.full))
    c.in_ok-insert_in_pages.ensures.group.1)
