use Rattle.std.proofs.Common.{refl}
use Rattle.snapshots.proofs.Accepts.{unsealed_when}
use Rattle.snapshots.proofs.prefix.LogPrefix.is_unsealed.Goals as goal

pub returns-clause-unsealed : goal.returns-clause-unsealed
returns-clause-unsealed g c =
    rw (← c.self.view_is, c.self.invariant.2.listed, c.self.invariant.2.accepted)
    (unsealed_when c.self.inside.seen.log _ refl)
