use Rattle.std.proofs.Common.{◌<◌, ◌∙◌, Vec, Global, length, sym, ap, subst}
use Rattle.std.proofs.lemmas.Result.{on_ok_weaker, IfErr-at_err}
use Rattle.std.specs.Arc.{arc_value}
use Rattle.pages.specs.Pages.{branch_lists, top_list, flattened, AreBranches}
use Rattle.pages.proofs.Clones.{is_ok_from}
use Rattle.pages.proofs.Tops.{top_clone, branches_clone}
use Rattle.pages.proofs.Changes.{changed_after, set_as_it_was, set_after}
use Rattle.pages.proofs.change.change_in_top.Goals as goal

pub returns-in_err-own-clause-count : goal.returns-in_err-own-clause-count
returns-in_err-own-clause-count g c =
    ap (λ l. length (flattened l)) (top_clone g.E.Entry.item (arc_value c.args.top.now) _ _ (IfErr-at_err _ c.in_err-own.was c.make_mut.follows.holds-at-none))

pub returns-in_err-own-clause-top : goal.returns-in_err-own-clause-top
returns-in_err-own-clause-top g c =
    branches_clone g.E.Entry.item g.row.LEAF (arc_value c.args.top.now) _ _ (IfErr-at_err _ c.in_err-own.was c.make_mut.follows.holds-at-none) c.requires.top

pub change_in_branches-requires-clause-branches : goal.change_in_branches-requires-clause-branches
change_in_branches-requires-clause-branches g c =
    branches_clone g.E.Entry.item g.row.LEAF (arc_value c.args.top.now) _ _ c.in_ok-own.ensures.value c.requires.top

pub change_in_branches-requires-clause-held : goal.change_in_branches-requires-clause-held
change_in_branches-requires-clause-held g c =
    subst (λ l. c.args.at < length (flattened l)) (sym (top_clone g.E.Entry.item (arc_value c.args.top.now) _ _ c.in_ok-own.ensures.value)) c.requires.held

pub returns-clause-ok : goal.returns-clause-ok
returns-clause-ok g c =
    on_ok_weaker c.change_in_branches.result
    (changed_after (g.C.Change.after c.args.change.now) c.args.at
    (ap flattened (top_clone g.E.Entry.item (arc_value c.args.top.now) _ _ c.in_ok-own.ensures.value))
    (ap (λ (v : Vec _ Global). flattened (branch_lists g.E.Entry.item v.items)) (c.make_mut.follows.holds _ (is_ok_from _ _ c.in_ok-own.was))))
    c.change_in_branches.ensures.ok

pub returns-clause-count : goal.returns-clause-count
returns-clause-count g c =
    ap (λ (v : Vec _ Global). length (flattened (branch_lists g.E.Entry.item v.items))) (c.make_mut.follows.holds _ (is_ok_from _ _ c.in_ok-own.was))
    ∙ c.change_in_branches.ensures.count
    ∙ ap (λ l. length (flattened l)) (top_clone g.E.Entry.item (arc_value c.args.top.now) _ _ c.in_ok-own.ensures.value)

pub returns-clause-top : goal.returns-clause-top
returns-clause-top g c =
    subst (λ (v : Vec _ Global). AreBranches g.E.Entry.item g.row.LEAF v.items) (sym (c.make_mut.follows.holds _ (is_ok_from _ _ c.in_ok-own.was))) c.change_in_branches.ensures.branches

pub returns-in_err-own-clause-others : goal.returns-in_err-own-clause-others
returns-in_err-own-clause-others g c =
    set_as_it_was (top_list g.E.Entry.item c.args.top.now) c.args.at c.requires.held
    (ap flattened (top_clone g.E.Entry.item (arc_value c.args.top.now) _ _ (IfErr-at_err _ c.in_err-own.was c.make_mut.follows.holds-at-none)))

pub returns-clause-others : goal.returns-clause-others
returns-clause-others g c =
    set_after c.args.at
    (ap flattened (top_clone g.E.Entry.item (arc_value c.args.top.now) _ _ c.in_ok-own.ensures.value))
    (ap (λ (v : Vec _ Global). flattened (branch_lists g.E.Entry.item v.items)) (c.make_mut.follows.holds _ (is_ok_from _ _ c.in_ok-own.was)))
    c.change_in_branches.ensures.others
