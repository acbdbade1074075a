use Rattle.std.proofs.Common.{◌∙◌, ap}
use Rattle.snapshots.specs.Marks.{accepted}
use Rattle.snapshots.specs.Views.{Ledger}
use Rattle.snapshots.proofs.Held.{held_as}
use Rattle.snapshots.proofs.tip.Tip.receipt.Goals as goal

pub returns-clause-list : goal.returns-clause-list
returns-clause-list g c = c.whole.ensures.list ∙ (c.self.invariant.3 ∙ ap (λ (l : Ledger). l.published) c.self.view_is)

pub returns-clause-held : goal.returns-clause-held
returns-clause-held g c = held_as g.K.Keeper.holds g.K.Keeper.stays g.J.Naming.before (accepted c.self.inside.done) _ c.whole.ensures.list c.self.invariant.4
