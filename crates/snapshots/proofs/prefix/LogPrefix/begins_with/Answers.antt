use Rattle.std.proofs.Common.{ap, subst, refl, List}
use mathlib.Core.List.{IsPrefix}
use Rattle.snapshots.specs.declared.entry.Mark.{Mark}
use Rattle.snapshots.proofs.Accepts.{begins_when}
use Rattle.snapshots.proofs.prefix.LogPrefix.begins_with.Goals as goal

pub returns-clause-begins : goal.returns-clause-begins
returns-clause-begins g c =
    let both = c.learn.new.self.log in
    let this : IsPrefix c.self.inside.seen.log both =
    subst (λ (l : List Mark). IsPrefix l both) (ap (λ s. s.log) c.again-both.ensures)
    c.learn.ensures.2 in
    rw (← c.self.view_is, ← c.other.view_is, c.self.invariant.0, c.other.invariant.0)
    (begins_when c.other.inside.seen.log c.self.inside.seen.log both c.learn.ensures.3 this _ refl)

pub returns-clause-asked : goal.returns-clause-asked
returns-clause-asked g c = rw (← c.self.view_is) c.self.invariant.3
