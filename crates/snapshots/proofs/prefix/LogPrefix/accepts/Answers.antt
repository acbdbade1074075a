use Rattle.std.proofs.Common.{refl, ◌≡◌, arith, rules}
use mathlib.Core.List.{IsPrefix}
use Rattle.snapshots.specs.Marks.{voids_of}
use Rattle.snapshots.proofs.Accepts.{accepts_when}
use Rattle.snapshots.proofs.prefix.LogPrefix.accepts.Goals as goal

pub returns-clause-accepts : goal.returns-clause-accepts
returns-clause-accepts g c =
    let begins : IsPrefix c.other.inside.seen.log c.self.inside.seen.log = search rules in
    let voids : voids_of c.other.inside.seen.log ≡ voids_of c.self.inside.seen.log =
    omega (arith, c.other.invariant.2.voids, c.self.invariant.2.voids) in
    rw (← c.self.view_is, ← c.other.view_is, c.other.invariant.2.tried, c.self.invariant.2.accepted)
    (accepts_when c.other.inside.seen.log c.self.inside.seen.log begins voids _ refl)
