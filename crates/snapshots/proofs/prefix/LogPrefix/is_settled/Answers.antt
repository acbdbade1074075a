use Rattle.std.proofs.Common.{refl}
use Rattle.snapshots.proofs.Accepts.{settled_when}
use Rattle.snapshots.proofs.prefix.LogPrefix.is_settled.Goals as goal

pub returns-clause-settled : goal.returns-clause-settled
returns-clause-settled g c =
    rw (← c.self.view_is, c.self.invariant.2.tried, c.self.invariant.2.accepted)
    (settled_when c.self.inside.seen.log _ refl)
