use Rattle.std.proofs.Common.{◌∙◌, Vec, Global, map, sym, ap, subst}
use Rattle.std.proofs.lemmas.Result.{on_ok_weaker, on_err_weaker, IfErr-at_err}
use Rattle.std.specs.List.{insert}
use Rattle.std.specs.Arc.{arc_value}
use Rattle.pages.specs.Pages.{leaf_list, flattened}
use Rattle.pages.specs.Sorted.{IsGroup, IsSpotIn, place_in}
use Rattle.pages.proofs.Clones.{branch_clone, on_err, is_ok_from}
use Rattle.pages.proofs.edit.insert_in_group.Goals as goal

pub returns-in_err-own-clause-err : goal.returns-in_err-own-clause-err
returns-in_err-own-clause-err g c =
    on_err c.from_residual.result (branch_clone g.E.Entry.item (arc_value c.args.group.now) _ _ (IfErr-at_err _ c.in_err-own.was c.make_mut.follows.holds-at-none))

pub returns-in_err-own-clause-group : goal.returns-in_err-own-clause-group
returns-in_err-own-clause-group g c =
    subst IsGroup (sym (branch_clone g.E.Entry.item (arc_value c.args.group.now) _ _ (IfErr-at_err _ c.in_err-own.was c.make_mut.follows.holds-at-none))) c.requires.group

pub insert_in_pages-requires-clause-group : goal.insert_in_pages-requires-clause-group
insert_in_pages-requires-clause-group g c =
    subst IsGroup (sym (branch_clone g.E.Entry.item (arc_value c.args.group.now) _ _ c.in_ok-own.ensures.value)) c.requires.group

pub insert_in_pages-requires-clause-spot : goal.insert_in_pages-requires-clause-spot
insert_in_pages-requires-clause-spot g c =
    subst (λ l. IsSpotIn l c.args.spot) (sym (branch_clone g.E.Entry.item (arc_value c.args.group.now) _ _ c.in_ok-own.ensures.value)) c.requires.spot

pub returns-clause-ok : goal.returns-clause-ok
returns-clause-ok g c =
    on_ok_weaker c.insert_in_pages.result
    (λ e. ap (λ (v : Vec _ Global). flattened (map (leaf_list g.E.Entry.item) v.items)) (c.make_mut.follows.holds _ (is_ok_from _ _ c.in_ok-own.was))
    ∙ (e ∙ ap (λ l. insert (flattened l) (place_in l c.args.spot) (g.E.Entry.item c.args.x)) (branch_clone g.E.Entry.item (arc_value c.args.group.now) _ _ c.in_ok-own.ensures.value)))
    c.insert_in_pages.ensures.ok

pub returns-clause-err : goal.returns-clause-err
returns-clause-err g c =
    on_err_weaker c.insert_in_pages.result
    (λ e. ap (λ (v : Vec _ Global). map (leaf_list g.E.Entry.item) v.items) (c.make_mut.follows.holds _ (is_ok_from _ _ c.in_ok-own.was))
    ∙ (e ∙ branch_clone g.E.Entry.item (arc_value c.args.group.now) _ _ c.in_ok-own.ensures.value))
    c.insert_in_pages.ensures.err
