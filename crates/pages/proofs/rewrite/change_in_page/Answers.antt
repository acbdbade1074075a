use Rattle.std.specs.Arc.{arc_value}
use Rattle.std.proofs.lemmas.Result.{on_ok_weaker, on_err_weaker, IfErr-at_err}
use Rattle.pages.proofs.Clones.{clone_items, on_err, is_ok_from}
use Rattle.pages.proofs.Changes.{page_changed, page_same}
use Rattle.pages.proofs.rewrite.change_in_page.Goals as goal

pub returns-in_err-own-clause-err : goal.returns-in_err-own-clause-err
returns-in_err-own-clause-err g c =
    on_err c.from_residual.result (clone_items g.E.Entry.item g.E.Clone.is_clone g.met.E.Entry.same _ _ _ (IfErr-at_err _ c.in_err-own.was c.make_mut.follows.holds-at-none))

pub returns-clause-ok : goal.returns-clause-ok
returns-clause-ok g c =
    on_ok_weaker c.change.result
    (page_changed g.E.Entry.item g.E.Clone.is_clone g.met.E.Entry.same (arc_value c.args.page.now) _ _ c.args.at c.index_mut.result.now c.change.new.entry _ c.in_ok-own.ensures.value (c.make_mut.follows.holds _ (is_ok_from _ _ c.in_ok-own.was))
    (g.C.WholeChange.after c.args.change.now) c.requires c.index_mut.ensures.value)
    c.change.ensures.ok

pub returns-clause-err : goal.returns-clause-err
returns-clause-err g c =
    on_err_weaker c.change.result
    (page_same g.E.Entry.item g.E.Clone.is_clone g.met.E.Entry.same (arc_value c.args.page.now) _ _ c.args.at c.index_mut.result.now c.change.new.entry _ c.in_ok-own.ensures.value (c.make_mut.follows.holds _ (is_ok_from _ _ c.in_ok-own.was))
    c.requires c.index_mut.ensures.value)
    c.change.ensures.err
