use Rattle.std.proofs.Common.{ap, subst, refl, List}
use mathlib.Core.List.{IsPrefix}
use Rattle.snapshots.specs.declared.entry.Mark.{Mark}
use Rattle.snapshots.proofs.Accepts.{covers_when}
use Rattle.snapshots.proofs.prefix.LogPrefix.begins.Goals as goal

pub returns-clause-begins : goal.returns-clause-begins
returns-clause-begins g c =
    let both = c.learn.new.self.log in
    let this : IsPrefix c.self.inside.seen.log both =
    subst (λ (l : List Mark). IsPrefix l both) (ap (λ s. s.log) c.again-both.ensures)
    c.learn.ensures.2 in
    rw (← c.self.view_is, c.saturating_sub.ensures, c.self.invariant.0, c.requires.1)
    (covers_when c.self.inside.seen.log c.args.seen.now.log both this c.learn.ensures.3 _ refl)
