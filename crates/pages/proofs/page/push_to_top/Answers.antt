use Rattle.std.proofs.Common.{◌≡◌, ◌∙◌, ◌++◌, ◌∷◌, [], Vec, Global, length, sym, ap, subst}
use Rattle.std.proofs.lemmas.Result.{on_ok_weaker, on_err_weaker, IfErr-at_err}
use Rattle.std.specs.Arc.{arc_value}
use Rattle.pages.specs.Pages.{branch_lists, flattened, AreBranches}
use Rattle.pages.proofs.Clones.{on_err, is_ok_from}
use Rattle.pages.proofs.Tops.{top_clone, branches_clone}
use Rattle.pages.proofs.page.push_to_top.Goals as goal

pub returns-in_err-own-clause-err : goal.returns-in_err-own-clause-err
returns-in_err-own-clause-err g c =
    on_err c.from_residual.result (ap flattened (top_clone g.E.Entry.item (arc_value c.args.top.now) _ _ (IfErr-at_err _ c.in_err-own.was c.make_mut.follows.holds-at-none)))

pub returns-in_err-own-clause-top : goal.returns-in_err-own-clause-top
returns-in_err-own-clause-top g c =
    branches_clone g.E.Entry.item g.row.LEAF (arc_value c.args.top.now) _ _ (IfErr-at_err _ c.in_err-own.was c.make_mut.follows.holds-at-none) c.requires.top

pub push_to_branches-requires-clause-branches : goal.push_to_branches-requires-clause-branches
push_to_branches-requires-clause-branches g c =
    branches_clone g.E.Entry.item g.row.LEAF (arc_value c.args.top.now) _ _ c.in_ok-own.ensures.value c.requires.top

pub push_to_branches-requires-clause-end : goal.push_to_branches-requires-clause-end
push_to_branches-requires-clause-end g c =
    subst (λ l. c.args.at ≡ length (flattened l)) (sym (top_clone g.E.Entry.item (arc_value c.args.top.now) _ _ c.in_ok-own.ensures.value)) c.requires.end

pub returns-clause-ok : goal.returns-clause-ok
returns-clause-ok g c =
    on_ok_weaker c.push_to_branches.result
    (λ e. ap (λ (v : Vec _ Global). flattened (branch_lists g.E.Entry.item v.items)) (c.make_mut.follows.holds _ (is_ok_from _ _ c.in_ok-own.was))
    ∙ (e ∙ ap (λ l. flattened l ++ g.E.Entry.item c.args.x ∷ []) (top_clone g.E.Entry.item (arc_value c.args.top.now) _ _ c.in_ok-own.ensures.value)))
    c.push_to_branches.ensures.ok

pub returns-clause-err : goal.returns-clause-err
returns-clause-err g c =
    on_err_weaker c.push_to_branches.result
    (λ e. ap (λ (v : Vec _ Global). flattened (branch_lists g.E.Entry.item v.items)) (c.make_mut.follows.holds _ (is_ok_from _ _ c.in_ok-own.was))
    ∙ (e ∙ ap flattened (top_clone g.E.Entry.item (arc_value c.args.top.now) _ _ c.in_ok-own.ensures.value)))
    c.push_to_branches.ensures.err

pub returns-clause-top : goal.returns-clause-top
returns-clause-top g c =
    subst (λ (v : Vec _ Global). AreBranches g.E.Entry.item g.row.LEAF v.items) (sym (c.make_mut.follows.holds _ (is_ok_from _ _ c.in_ok-own.was))) c.push_to_branches.ensures.branches
