use Rattle.std.proofs.Common.{◌∙◌, Vec, Global, sym, ap, subst}
use Rattle.std.proofs.lemmas.Result.{on_ok_weaker, on_err_weaker, IfErr-at_err}
use Rattle.std.specs.Arc.{arc_value}
use Rattle.pages.specs.Pages.{groups_of}
use Rattle.pages.specs.Sorted.{entries_of, AreGroups, HasEntry, place_of}
use Rattle.pages.proofs.Clones.{groups_clone, on_err, is_ok_from}
use Rattle.pages.proofs.Changes.{changed_in}
use Rattle.pages.proofs.rewrite.change_at.Goals as goal

pub returns-in_err-own-clause-err : goal.returns-in_err-own-clause-err
returns-in_err-own-clause-err g c =
    on_err c.from_residual.result (groups_clone g.E.Entry.item (arc_value c.args.top.now) _ _ (IfErr-at_err _ c.in_err-own.was c.make_mut.follows.holds-at-none))

pub returns-in_err-own-clause-groups : goal.returns-in_err-own-clause-groups
returns-in_err-own-clause-groups g c =
    subst AreGroups (sym (groups_clone g.E.Entry.item (arc_value c.args.top.now) _ _ (IfErr-at_err _ c.in_err-own.was c.make_mut.follows.holds-at-none))) c.requires.groups

pub change_in_groups-requires-clause-groups : goal.change_in_groups-requires-clause-groups
change_in_groups-requires-clause-groups g c =
    subst AreGroups (sym (groups_clone g.E.Entry.item (arc_value c.args.top.now) _ _ c.in_ok-own.ensures.value)) c.requires.groups

pub change_in_groups-requires-clause-entry : goal.change_in_groups-requires-clause-entry
change_in_groups-requires-clause-entry g c =
    subst (λ l. HasEntry l c.args.spot) (sym (groups_clone g.E.Entry.item (arc_value c.args.top.now) _ _ c.in_ok-own.ensures.value)) c.requires.entry

pub returns-clause-ok : goal.returns-clause-ok
returns-clause-ok g c =
    on_ok_weaker c.change_in_groups.result
    (changed_in (g.C.WholeChange.after c.args.change.now) entries_of (λ l. place_of l c.args.spot)
    (groups_clone g.E.Entry.item (arc_value c.args.top.now) _ _ c.in_ok-own.ensures.value)
    (ap (λ (v : Vec _ Global). entries_of (groups_of g.E.Entry.item v.items)) (c.make_mut.follows.holds _ (is_ok_from _ _ c.in_ok-own.was))))
    c.change_in_groups.ensures.ok

pub returns-clause-err : goal.returns-clause-err
returns-clause-err g c =
    on_err_weaker c.change_in_groups.result
    (λ e. ap (λ (v : Vec _ Global). groups_of g.E.Entry.item v.items) (c.make_mut.follows.holds _ (is_ok_from _ _ c.in_ok-own.was))
    ∙ (e ∙ groups_clone g.E.Entry.item (arc_value c.args.top.now) _ _ c.in_ok-own.ensures.value))
    c.change_in_groups.ensures.err
