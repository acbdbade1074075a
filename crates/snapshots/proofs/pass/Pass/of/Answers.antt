use Rattle.snapshots.proofs.Replaying.{after-none}
use Rattle.snapshots.proofs.pass.Pass.of.Goals as goal

pub invariant_of-result : goal.invariant_of-result
invariant_of-result g c =
    rw (c.share.ensures.same, c.requires.empty)
    (c.requires.fresh, (g.J.Naming.opening, after-none g.J.Naming.opening), c.requires.kept)
