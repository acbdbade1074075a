use Rattle.std.proofs.Common.{◌<◌, ◌∙◌, Vec, Global, length, map, set, sym, ap, subst}
use Rattle.std.proofs.lemmas.Result.{on_ok_weaker, on_err_weaker, IfErr-at_err}
use Rattle.std.specs.Arc.{arc_value}
use Rattle.pages.specs.Pages.{leaf_list, flattened, IsPaged}
use Rattle.pages.proofs.Clones.{branch_clone, on_err, is_ok_from}
use Rattle.pages.proofs.page.set_in_branch.Goals as goal

pub returns-in_err-own-clause-err : goal.returns-in_err-own-clause-err
returns-in_err-own-clause-err g c =
    on_err c.from_residual.result (ap flattened (branch_clone g.E.Entry.item (arc_value c.args.branch.now) _ _ (IfErr-at_err _ c.in_err-own.was c.make_mut.follows.holds-at-none)))

pub returns-in_err-own-clause-paged : goal.returns-in_err-own-clause-paged
returns-in_err-own-clause-paged g c =
    subst (IsPaged g.row.LEAF) (sym (branch_clone g.E.Entry.item (arc_value c.args.branch.now) _ _ (IfErr-at_err _ c.in_err-own.was c.make_mut.follows.holds-at-none))) c.requires.paged

pub set_in_leaves-requires-clause-paged : goal.set_in_leaves-requires-clause-paged
set_in_leaves-requires-clause-paged g c =
    subst (IsPaged g.row.LEAF) (sym (branch_clone g.E.Entry.item (arc_value c.args.branch.now) _ _ c.in_ok-own.ensures.value)) c.requires.paged

pub set_in_leaves-requires-clause-held : goal.set_in_leaves-requires-clause-held
set_in_leaves-requires-clause-held g c =
    subst (λ l. c.args.at < length (flattened l)) (sym (branch_clone g.E.Entry.item (arc_value c.args.branch.now) _ _ c.in_ok-own.ensures.value)) c.requires.held

pub returns-clause-ok : goal.returns-clause-ok
returns-clause-ok g c =
    on_ok_weaker c.set_in_leaves.result
    (λ e. ap (λ (v : Vec _ Global). flattened (map (leaf_list g.E.Entry.item) v.items)) (c.make_mut.follows.holds _ (is_ok_from _ _ c.in_ok-own.was))
    ∙ (e ∙ ap (λ l. set (flattened l) c.args.at (g.E.Entry.item c.args.x)) (branch_clone g.E.Entry.item (arc_value c.args.branch.now) _ _ c.in_ok-own.ensures.value)))
    c.set_in_leaves.ensures.ok

pub returns-clause-err : goal.returns-clause-err
returns-clause-err g c =
    on_err_weaker c.set_in_leaves.result
    (λ e. ap (λ (v : Vec _ Global). flattened (map (leaf_list g.E.Entry.item) v.items)) (c.make_mut.follows.holds _ (is_ok_from _ _ c.in_ok-own.was))
    ∙ ap flattened (e ∙ branch_clone g.E.Entry.item (arc_value c.args.branch.now) _ _ c.in_ok-own.ensures.value))
    c.set_in_leaves.ensures.err
