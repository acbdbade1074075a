use Rattle.std.proofs.Common.{List, sym, ap, subst, ◌∙◌}
use Rattle.std.proofs.lemmas.List.{append-nil}
use Rattle.head.specs.Worlds.{Event}
use Rattle.snapshots.specs.Keeping.{kept_of}
use Rattle.snapshots.proofs.book.Book.of.Goals as goal

pub invariant_of-result : goal.invariant_of-result
invariant_of-result g c = (
  c.requires.shown,
  subst (λ (events : List Event). g.K.Keeper.holds c.args.keeper events)
      (sym (ap (kept_of g.J.Naming.before) c.requires.empty ∙ append-nil g.J.Naming.before)) c.requires.kept,
  c.requires.world,
  c.requires.may,
  c.requires.rule,
)
