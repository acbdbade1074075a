use Rattle.std.specs.Arc.{arc_value}
use Rattle.std.proofs.Common.{refl}
use Rattle.std.proofs.lemmas.Result.{on_ok_weaker, IfErr-at_err}
use Rattle.pages.specs.Pages.{leaf_list}
use Rattle.pages.proofs.Clones.{clone_items, is_ok_from}
use Rattle.pages.proofs.Changes.{page_changed, set_as_it_was}
use Rattle.pages.proofs.change.change_in_leaf.Goals as goal

pub returns-clause-ok : goal.returns-clause-ok
returns-clause-ok g c =
    on_ok_weaker c.change.result
    (page_changed g.E.Entry.item g.E.Clone.is_clone g.met.E.Entry.same (arc_value c.args.leaf.now) _ _ c.args.at c.index_mut.result.now c.change.new.entry _ c.in_ok-own.ensures.value (c.make_mut.follows.holds _ (is_ok_from _ _ c.in_ok-own.was))
    (g.C.Change.after c.args.change.now) c.requires c.index_mut.ensures.value)
    c.change.ensures

pub returns-in_err-own-clause-others : goal.returns-in_err-own-clause-others
returns-in_err-own-clause-others g c =
    set_as_it_was (leaf_list g.E.Entry.item c.args.leaf.now) c.args.at c.requires
    (clone_items g.E.Entry.item g.E.Clone.is_clone g.met.E.Entry.same _ _ _ (IfErr-at_err _ c.in_err-own.was c.make_mut.follows.holds-at-none))

pub returns-clause-others : goal.returns-clause-others
returns-clause-others g c = (
  g.E.Entry.item c.change.new.entry,
  page_changed g.E.Entry.item g.E.Clone.is_clone g.met.E.Entry.same (arc_value c.args.leaf.now) _ _ c.args.at c.index_mut.result.now c.change.new.entry _ c.in_ok-own.ensures.value (c.make_mut.follows.holds _ (is_ok_from _ _ c.in_ok-own.was))
      (λ x. g.E.Entry.item c.change.new.entry) c.requires c.index_mut.ensures.value refl (g.E.Entry.item c.change.new.entry),
)
