use Rattle.snapshots.specs.Marks.{accepted}
use Rattle.snapshots.proofs.Prefixes.{take_begins}
use Rattle.snapshots.proofs.receipt.Receipt.log.Goals as goal

pub returns : goal.returns
returns g c = rw (← c.self.view_is) (take_begins c.self.inside.events (accepted c.self.inside.log))
