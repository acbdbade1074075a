use Rattle.std.proofs.Common.{sym}
use Rattle.std.proofs.lemmas.List.{length-take-le}
use Rattle.snapshots.specs.Marks.{accepted}
use Rattle.snapshots.proofs.receipt.Receipt.events.Goals as goal

pub returns : goal.returns
returns g c =
    rw (← c.self.view_is) (sym (length-take-le c.self.inside.events (accepted c.self.inside.log) c.self.invariant))
