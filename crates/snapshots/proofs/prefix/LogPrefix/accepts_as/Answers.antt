use Rattle.std.proofs.Common.{refl, rules}
use mathlib.Core.List.{IsPrefix}
use Rattle.snapshots.proofs.Accepts.{accepts_as_when}
use Rattle.snapshots.proofs.prefix.LogPrefix.accepts_as.Goals as goal

pub returns-clause-accepts : goal.returns-clause-accepts
returns-clause-accepts g c =
    let begins : IsPrefix c.other.inside.seen.log c.self.inside.seen.log = search rules in
    rw (← c.self.view_is, ← c.other.view_is, c.other.invariant.2.accepted, c.self.invariant.2.accepted)
    (accepts_as_when c.other.inside.seen.log c.self.inside.seen.log begins _ refl)
