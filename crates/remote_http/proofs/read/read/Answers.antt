use Rattle.std.proofs.Common.{ℕ, List, [], subst, sym}
use Rattle.head.specs.Heads.{SnapshotParts}
use Rattle.snapshots.specs.Replays.{IsAfter}
use Rattle.remote_rows.specs.Sent.{IsReplyTo}
use Rattle.remote_http.proofs.Answered.{no_answers, rows_replied, unnamed_replied}
use Rattle.remote_http.proofs.read.read.Goals as goal

pub returns-then-not-branch-clause-reply : goal.returns-then-not-branch-clause-reply
returns-then-not-branch-clause-reply g c =
    unnamed_replied g.J.Naming.opening c.args.pass.now c.snapshot.new.self c.deref.result.now c.snapshot.ensures.seen
    c.in-Ok.ensures.told
    (subst (λ (s : SnapshotParts). IsAfter g.J.Naming.opening c.snapshot.new.self.seen s) (sym c.deref.ensures) c.in-Ok.ensures.world)
    c.args.readings.now c.refusal_reply-then-not-branch.result
    (rw c.if-not-branch.true at (c.in_ok-add_answers.ensures [] (no_answers c.new-text.result.items c.new-text.ensures.items)))
    c.refusal_reply-then-not-branch.ensures

pub returns-clause-reply : goal.returns-clause-reply
returns-clause-reply g c =
    rows_replied g.J.Naming.opening c.args.pass.now c.snapshot.new.self c.deref.result.now c.snapshot.ensures.seen
    c.in-Ok.ensures.told
    (subst (λ (s : SnapshotParts). IsAfter g.J.Naming.opening c.snapshot.new.self.seen s) (sym c.deref.ensures) c.in-Ok.ensures.world)
    c.args.readings.now c.add_answers.new.text.items c.in_ok-body.body.items c.packed_reply.result
    (rw c.if-not-branch.false at (c.in_ok-add_answers.ensures [] (no_answers c.new-text.result.items c.new-text.ensures.items)))
    (λ answers r. c.in_ok-body.ensures answers (subst (λ (t : List ℕ). IsReplyTo answers t) (sym c.as_slice.ensures.value) r))
    c.packed_reply.ensures.number c.packed_reply.ensures.spelled
