use Rattle.std.specs.Arc.{arc_value}
use Rattle.snapshots.proofs.Tips.{behind_set}
use Rattle.snapshots.proofs.waiting.set_aside.Goals as goal

pub returns-clause-behind : goal.returns-clause-behind
returns-clause-behind g c =
    behind_set g.J.Naming.opening g.K.Keeper.idle c.args.waits c.args.log.now
    (arc_value c.args.ahead.now.snapshot) (arc_value c.in_ok-set.set.snapshot)
    c.args.ahead.now.counts.items c.in_ok-set.set.counts.items c.clear.new.self.items
    c.if-waits.false c.requires.ahead c.requires.settled c.in_ok-set.ensures.snapshot c.in_ok-set.ensures.counts c.clear.ensures.items
