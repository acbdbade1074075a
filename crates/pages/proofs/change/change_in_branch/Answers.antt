use Rattle.std.proofs.Common.{◌<◌, ◌∙◌, Vec, Global, length, map, sym, ap, subst}
use Rattle.std.proofs.lemmas.Result.{on_ok_weaker, IfErr-at_err}
use Rattle.std.specs.Arc.{arc_value}
use Rattle.pages.specs.Pages.{leaf_list, branch_list, flattened, IsPaged}
use Rattle.pages.proofs.Clones.{branch_clone, is_ok_from}
use Rattle.pages.proofs.Changes.{changed_after, set_as_it_was, set_after}
use Rattle.pages.proofs.change.change_in_branch.Goals as goal

pub returns-in_err-own-clause-count : goal.returns-in_err-own-clause-count
returns-in_err-own-clause-count g c =
    ap (λ l. length (flattened l)) (branch_clone g.E.Entry.item (arc_value c.args.branch.now) _ _ (IfErr-at_err _ c.in_err-own.was c.make_mut.follows.holds-at-none))

pub returns-in_err-own-clause-paged : goal.returns-in_err-own-clause-paged
returns-in_err-own-clause-paged g c =
    subst (IsPaged g.row.LEAF) (sym (branch_clone g.E.Entry.item (arc_value c.args.branch.now) _ _ (IfErr-at_err _ c.in_err-own.was c.make_mut.follows.holds-at-none))) c.requires.paged

pub change_in_leaves-requires-clause-paged : goal.change_in_leaves-requires-clause-paged
change_in_leaves-requires-clause-paged g c =
    subst (IsPaged g.row.LEAF) (sym (branch_clone g.E.Entry.item (arc_value c.args.branch.now) _ _ c.in_ok-own.ensures.value)) c.requires.paged

pub change_in_leaves-requires-clause-held : goal.change_in_leaves-requires-clause-held
change_in_leaves-requires-clause-held g c =
    subst (λ l. c.args.at < length (flattened l)) (sym (branch_clone g.E.Entry.item (arc_value c.args.branch.now) _ _ c.in_ok-own.ensures.value)) c.requires.held

pub returns-clause-ok : goal.returns-clause-ok
returns-clause-ok g c =
    on_ok_weaker c.change_in_leaves.result
    (changed_after (g.C.Change.after c.args.change.now) c.args.at
    (ap flattened (branch_clone g.E.Entry.item (arc_value c.args.branch.now) _ _ c.in_ok-own.ensures.value))
    (ap (λ (v : Vec _ Global). flattened (map (leaf_list g.E.Entry.item) v.items)) (c.make_mut.follows.holds _ (is_ok_from _ _ c.in_ok-own.was))))
    c.change_in_leaves.ensures.ok

pub returns-clause-count : goal.returns-clause-count
returns-clause-count g c =
    ap (λ (v : Vec _ Global). length (flattened (map (leaf_list g.E.Entry.item) v.items))) (c.make_mut.follows.holds _ (is_ok_from _ _ c.in_ok-own.was))
    ∙ c.change_in_leaves.ensures.count
    ∙ ap (λ l. length (flattened l)) (branch_clone g.E.Entry.item (arc_value c.args.branch.now) _ _ c.in_ok-own.ensures.value)

pub returns-in_err-own-clause-others : goal.returns-in_err-own-clause-others
returns-in_err-own-clause-others g c =
    set_as_it_was (branch_list g.E.Entry.item c.args.branch.now) c.args.at c.requires.held
    (ap flattened (branch_clone g.E.Entry.item (arc_value c.args.branch.now) _ _ (IfErr-at_err _ c.in_err-own.was c.make_mut.follows.holds-at-none)))

pub returns-clause-others : goal.returns-clause-others
returns-clause-others g c =
    set_after c.args.at
    (ap flattened (branch_clone g.E.Entry.item (arc_value c.args.branch.now) _ _ c.in_ok-own.ensures.value))
    (ap (λ (v : Vec _ Global). flattened (map (leaf_list g.E.Entry.item) v.items)) (c.make_mut.follows.holds _ (is_ok_from _ _ c.in_ok-own.was)))
    c.change_in_leaves.ensures.others
