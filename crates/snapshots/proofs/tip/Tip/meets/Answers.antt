use Rattle.snapshots.specs.Standings.{current}
use Rattle.snapshots.proofs.Asked.{current_asked}
use Rattle.snapshots.proofs.Counting.{met_by}
use Rattle.snapshots.proofs.Tips.{seen_begins}
use Rattle.snapshots.proofs.tip.Tip.meets.Goals as goal

pub returns-clause-met : goal.returns-clause-met
returns-clause-met g c =
    let t = c.self.inside in
    rw (← c.self.view_is) (met_by c.args.seat.now t.ahead.counts.items (current t.waits t.log)
    c.self.invariant.0.counted c.if-not-fits.ensures
    (seen_begins t.waits c.log.result.now t.log c.args.seat.now.seen c.log.ensures c.if-not-begins_with.ensures.begins))

pub returns-clause-asked : goal.returns-clause-asked
returns-clause-asked g c =
    let t = c.self.inside in
    rw (← c.self.view_is) (current_asked g.J.Naming.asked t.waits t.log c.if-not-begins_with.ensures.asked)
