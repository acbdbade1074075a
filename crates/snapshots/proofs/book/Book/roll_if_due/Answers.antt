use Rattle.std.proofs.Common.{ap, subst, ◌∙◌}
use Rattle.head.specs.Heads.{world_of}
use Rattle.head.specs.Worlds.{replayed}
use Rattle.keeper.specs.Finding.{AreAll, LeavesEvents}
use Rattle.snapshots.specs.Keeping.{kept_of, IsOfAllKept}
use Rattle.snapshots.specs.Marks.{accepted}
use Rattle.snapshots.specs.Views.{Published}
use Rattle.snapshots.proofs.Keeps.{of_all_kept}
use Rattle.snapshots.proofs.book.Book.roll_if_due.Goals as goal

pub roll_if_due-requires : goal.roll_if_due-requires
roll_if_due-requires g c = record {
  kept = (
    accepted c.self.inside.log,
    c.self.invariant.1,
    of_all_kept g.K.Keeper.idle g.K.Keeper.first g.J.Naming.before g.J.Naming.opening
        (accepted c.self.inside.log) c.self.inside.press.desk.shown.value.version.parts c.self.invariant.2
        c.self.invariant.0.2,
  );
}

pub invariant_of-self : goal.invariant_of-self
invariant_of-self g c = (
  c.self.invariant.0,
  c.roll_if_due.ensures.held (accepted c.self.inside.log) c.self.invariant.1
      (of_all_kept g.K.Keeper.idle g.K.Keeper.first g.J.Naming.before g.J.Naming.opening
      (accepted c.self.inside.log) c.self.inside.press.desk.shown.value.version.parts c.self.invariant.2
      c.self.invariant.0.2),
  c.self.invariant.2,
  c.self.invariant.3,
  c.self.invariant.4,
)

pub returns-clause-held : goal.returns-clause-held
returns-clause-held g c =
    c.roll_if_due.ensures.held (accepted c.self.inside.log) c.self.invariant.1
    (of_all_kept g.K.Keeper.idle g.K.Keeper.first g.J.Naming.before g.J.Naming.opening
    (accepted c.self.inside.log) c.self.inside.press.desk.shown.value.version.parts c.self.invariant.2
    c.self.invariant.0.2)

pub returns-clause-any_moment : goal.returns-clause-any_moment
returns-clause-any_moment g c opened =
    let k = g.K.Keeper in
    subst (λ (p : Published _). LeavesEvents k.moment k.left_since k.stands p.keeper c.roll_if_due.new.keeper (AreAll (kept_of g.J.Naming.before p.entries))) c.self.view_is
    (c.roll_if_due.ensures.any_moment (accepted c.self.inside.log) c.self.invariant.1
    (of_all_kept k.idle k.first g.J.Naming.before g.J.Naming.opening (accepted c.self.inside.log)
    c.self.inside.press.desk.shown.value.version.parts c.self.invariant.2 c.self.invariant.0.2)
    (ap (λ (p : Published _). k.closed p.keeper) c.self.view_is ∙ opened))

pub returns-clause-finds : goal.returns-clause-finds
returns-clause-finds g c opened keeps left had =
    let k = g.K.Keeper in
    let made = subst (λ (p : Published _). IsOfAllKept k.idle k.first g.J.Naming.before p.entries p.parts) c.self.view_is
    (of_all_kept k.idle k.first g.J.Naming.before g.J.Naming.opening (accepted c.self.inside.log)
    c.self.inside.press.desk.shown.value.version.parts c.self.invariant.2 c.self.invariant.0.2) in
    let s = (returns-clause-any_moment g c opened).each left had in
    g.met.K.Keeper.finds left s.0 (world_of c.args.self.now.parts) s.1 (ap (replayed k.first) s.2 ∙ made keeps)
