use Rattle.std.proofs.Common.{◌≡◌, ℤ, subst, rules, to_z, of_z, w64}
use Rattle.head.specs.Worlds.{cut}
use Rattle.snapshots.specs.Replays.{IsRefusedAfter, IsRefusedBy}
use Rattle.snapshots.proofs.committer.Committer.cut.Goals as goal

pub returns-in-Err-clause-refused : goal.returns-in-Err-clause-refused
returns-in-Err-clause-refused g c =
    let at_is : to_z w64 (of_z w64 c.args.at) ≡ c.args.at = search rules in
    subst (λ (t : ℤ). IsRefusedAfter g.J.Naming.opening c.args.seat.now c.in-Err.refused.error (cut t)) at_is
    (rw c.cut.ensures at c.in-Err.ensures.refused)

pub returns-in-Err-clause-met : goal.returns-in-Err-clause-met
returns-in-Err-clause-met g c =
    let at_is : to_z w64 (of_z w64 c.args.at) ≡ c.args.at = search rules in
    subst (λ (t : ℤ). IsRefusedBy g.J.Naming.opening c.args.seat.now c.in-Err.refused.error (cut t) c.in-Err.refused.met) at_is
    (rw c.cut.ensures at c.in-Err.ensures.met)
