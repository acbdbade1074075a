use Rattle.std.proofs.Common.{◌≡◌, ◌∙◌, ◌++◌, List, Vec, Global, map, set, length, arith, sym, ap, subst}
use Rattle.std.specs.List.{insert}
use Rattle.pages.specs.Pages.{Page, leaf_list, flattened}
use Rattle.pages.specs.Sorted.{MakesPage, IsGroup}
use Rattle.pages.proofs.Pieces.{part_at}
use Rattle.pages.proofs.Inserts.{some_two, two_len, pages_insert, pages_kept}
use Rattle.pages.proofs.edit.insert_in_full_page.Goals as goal

pub returns-clause-ok : goal.returns-clause-ok
returns-clause-ok g c =
    let full : length (leaf_list g.E.Entry.item c.index-full.result.now) ≡ 128 =
    ap length (sym (part_at (leaf_list g.E.Entry.item) c.args.pages.now.items c.args.page c.index-full.result.now c.requires.within c.index-full.ensures)) ∙ c.requires.full in
    ap (λ (l : List (Page _)). flattened (map (leaf_list g.E.Entry.item) (set l c.args.page c.in_ok-left-2.left))) c.in_ok-insert.ensures.items
    ∙ pages_insert (leaf_list g.E.Entry.item) c.args.pages.now.items c.args.page c.index-full.result.now c.requires.within c.index-full.ensures c.in_ok-left-2.left c.in_ok-right.right c.args.at (g.E.Entry.item c.args.x) (omega (arith, full))
    (ap (λ (v : Vec _ Global). map g.E.Entry.item v.items ++ leaf_list g.E.Entry.item c.in_ok-right.right) c.in_ok-left-2.ensures.ok
    ∙ (ap (λ (v : Vec _ Global). map g.E.Entry.item c.in_ok-left.left.items ++ map g.E.Entry.item v.items) c.in_ok-right.ensures.ok
    ∙ (c.in_ok-left.ensures.whole
    ∙ ap (λ (v : Vec _ Global). insert (map g.E.Entry.item v.items) c.args.at (g.E.Entry.item c.args.x)) c.deref.ensures)))

pub returns-clause-group : goal.returns-clause-group
returns-clause-group g c =
    subst (λ (l : List (Page _)). IsGroup (map (leaf_list g.E.Entry.item) (set l c.args.page c.in_ok-left-2.left))) (sym c.in_ok-insert.ensures.items) (
      some_two (leaf_list g.E.Entry.item) c.args.pages.now.items c.args.page c.in_ok-left-2.left c.in_ok-right.right c.requires.within,
      pages_kept (leaf_list g.E.Entry.item) c.args.pages.now.items c.args.page c.index-full.result.now c.requires.within c.index-full.ensures c.in_ok-left-2.left c.in_ok-right.right c.requires.group.1
          (subst (λ (v : Vec _ Global). MakesPage (map g.E.Entry.item v.items)) (sym c.in_ok-left-2.ensures.ok) c.in_ok-left.ensures.fits.0)
          (subst (λ (v : Vec _ Global). MakesPage (map g.E.Entry.item v.items)) (sym c.in_ok-right.ensures.ok) c.in_ok-left.ensures.fits.1),
    )

pub returns-clause-longer : goal.returns-clause-longer
returns-clause-longer g c =
    omega (arith, ap (λ (l : List (Page _)). length (set l c.args.page c.in_ok-left-2.left)) c.in_ok-insert.ensures.items, two_len c.args.pages.now.items c.args.page c.in_ok-left-2.left c.in_ok-right.right c.requires.within)
