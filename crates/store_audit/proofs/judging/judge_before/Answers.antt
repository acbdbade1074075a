use Rattle.std.proofs.Common.{subst}
use Rattle.kept_world.specs.Changes.{events_of}
use Rattle.reply_state.specs.Searches.{AreRightIn, Searches}
use Rattle.store_audit.specs.Reports.{first_in}
use Rattle.store_audit.proofs.judging.judge_before.Goals as goal

pub returns-in_ok-report-in-Found : goal.returns-in_ok-report-in-Found
returns-in_ok-report-in-Found c =
    c.in_ok-report-in-Found.ensures c.args.since (
      c.requires,
      subst (Searches (AreRightIn c.args.query.now c.args.reply.parts.items) 0
          (first_in c.args.beginning) (events_of c.args.changes.now)) c.in-Found.is c.in_ok-at.ensures,
    )

pub returns-in_ok-report-in-Nowhere : goal.returns-in_ok-report-in-Nowhere
returns-in_ok-report-in-Nowhere c =
    c.in_ok-report-in-Nowhere.ensures c.args.since (
      c.requires,
      subst (Searches (AreRightIn c.args.query.now c.args.reply.parts.items) 0
          (first_in c.args.beginning) (events_of c.args.changes.now)) c.in-Nowhere.is c.in_ok-at.ensures,
    )
