use Rattle.std.proofs.Common.{ap, sym, subst, ◌∙◌}
use Rattle.head.specs.Heads.{world_of}
use Rattle.head.specs.Worlds.{Batch, Event, batch_of, stepped}
use Rattle.history.specs.Held.{buffers_of}
use Rattle.history.specs.Replies.{IsSettled}
use Rattle.history.proofs.Listing.{no_some}
use Rattle.history.proofs.Replying.{refused_step}
use Rattle.history.proofs.machine.commit.Goals.{in-Some+in_ok-put-in-Err, in_default}
use Rattle.history.proofs.machine.commit.Goals as goal

pub returns-after-into_batch : goal.returns-after-into_batch
returns-after-into_batch c =
    let w = world_of c.args.at.now in
    let own : Batch = c.take.result.items in
    let event : Event = c.batch-event.result in
    elim c.match-into_batch.branch [
      | in-Some+in_ok-put-in-Err x ↦
          refused_step w (buffers_of c.args.held.now) (buffers_of c.take.new.self)
          (buffers_of c.match-into_batch.held) c.args.actor c.take.ensures.left
          own x.in-Some.samples.items event c.in-Err.refusal c.take.ensures.taken
          c.batch-event.ensures
          (subst (IsSettled (stepped w event)) c.in-Err.is c.in_ok-next.ensures)
          x.in-Some.ensures.given_back (ap buffers_of x.held-is ∙ x.in_ok-put-in-Err.ensures)
      | in_default x ↦
          absurd (no_some own (sym x.in_default.ensures.given_back
          ∙ ap batch_of c.batch-event.ensures))
    ]
