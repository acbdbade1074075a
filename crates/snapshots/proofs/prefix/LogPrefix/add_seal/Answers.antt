use Rattle.std.proofs.Common.{refl}
use Rattle.snapshots.proofs.Asked.{seal_asked}
use Rattle.snapshots.proofs.Accepts.{tally_seal}
use Rattle.snapshots.proofs.prefix.LogPrefix.add_seal.Goals as goal

pub add-requires-clause-tally : goal.add-requires-clause-tally
add-requires-clause-tally g c =
    rw (← c.self.view_is)
    (tally_seal c.self.inside.tally _ c.self.inside.seen.log c.self.invariant.2 refl refl refl refl)

pub add-requires-clause-asked : goal.add-requires-clause-asked
add-requires-clause-asked g c =
    rw (← c.self.view_is) (seal_asked g.J.Naming.asked c.self.inside.seen.log c.self.invariant.3)
