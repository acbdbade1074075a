use Rattle.std.proofs.Common.{List, refl, arith, ◌<◌, ◌^◌, length, subst, sym}
use Rattle.snapshots.specs.declared.entry.Mark.{Mark}
use Rattle.snapshots.specs.Marks.{tried_of}
use Rattle.snapshots.specs.Seats.{count_of}
use Rattle.snapshots.specs.Tries.{entry_of}
use Rattle.snapshots.proofs.Asked.{try_asked}
use Rattle.snapshots.proofs.Accepts.{tally_try, tried_short}
use Rattle.snapshots.proofs.prefix.LogPrefix.add_try.Goals as goal

pub overflow_add-tally : goal.overflow_add-tally
overflow_add-tally g c =
    let short = tried_short c.self.inside.seen.log in
    let is = c.self.invariant.2.tried in
    let room : length c.self.inside.seen.log < 2 ^ 62 = rw c.self.view_is c.requires.room in
    omega (arith, short, is, room)

pub add-requires-clause-tally : goal.add-requires-clause-tally
add-requires-clause-tally g c =
    rw (← c.self.view_is)
    (tally_try c.self.inside.tally _ c.self.inside.seen.log (entry_of g.C.AsEvent.event c.args.tried.now)
    c.self.invariant.2 refl refl refl refl)

pub add-requires-clause-asked : goal.add-requires-clause-asked
add-requires-clause-asked g c =
    rw (← c.self.view_is)
    (try_asked g.J.Naming.asked c.self.inside.seen.log (entry_of g.C.AsEvent.event c.args.tried.now) c.self.invariant.3
    (subst (λ (log : List Mark). g.J.Naming.asked (g.C.AsEvent.event c.args.tried.now.change.now) c.args.tried.now.seat
    (count_of c.args.tried.now.seat (tried_of log))) (sym c.self.view_is) c.requires.asked))
