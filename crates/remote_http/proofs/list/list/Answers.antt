use Rattle.std.proofs.Common.{subst, sym}
use Rattle.head.specs.Heads.{SnapshotParts}
use Rattle.snapshots.specs.Replays.{IsAfter}
use Rattle.remote_http.proofs.Listed.{listed_replied}
use Rattle.remote_http.proofs.list.list.Goals as goal

pub returns-clause-reply : goal.returns-clause-reply
returns-clause-reply g c =
    listed_replied g.J.Naming.opening c.args.listing.now c.args.pass.now c.snapshot.new.self c.deref.result.now
    c.snapshot.ensures.seen c.in-Ok.ensures.told
    (subst (λ (s : SnapshotParts). IsAfter g.J.Naming.opening c.snapshot.new.self.seen s) (sym c.deref.ensures) c.in-Ok.ensures.world)
    c.in_ok-body.body.items c.json_reply.result c.in_ok-body.ensures c.json_reply.ensures.number c.json_reply.ensures.spelled
