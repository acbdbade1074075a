use Rattle.std.proofs.Common.{refl, arith, ◌<◌, ◌^◌, length}
use Rattle.snapshots.proofs.Asked.{void_asked}
use Rattle.snapshots.proofs.Accepts.{tally_void, voids_short}
use Rattle.snapshots.proofs.prefix.LogPrefix.add_void.Goals as goal

pub overflow_add-tally : goal.overflow_add-tally
overflow_add-tally g c =
    let short = voids_short c.self.inside.seen.log in
    let is = c.self.invariant.2.voids in
    let room : length c.self.inside.seen.log < 2 ^ 62 = rw c.self.view_is c.requires in
    omega (arith, short, is, room)

pub add-requires-clause-tally : goal.add-requires-clause-tally
add-requires-clause-tally g c =
    rw (← c.self.view_is)
    (tally_void c.self.inside.tally _ c.self.inside.seen.log c.self.invariant.2 refl refl refl refl)

pub add-requires-clause-asked : goal.add-requires-clause-asked
add-requires-clause-asked g c =
    rw (← c.self.view_is) (void_asked g.J.Naming.asked c.self.inside.seen.log c.self.invariant.3)
