use Rattle.std.proofs.Common.{Option, refl, subst}
use Rattle.std.specs.Prelude.{IfSome}
use Rattle.kept_world.specs.Changes.{events_of}
use Rattle.reply_state.specs.Searches.{AreRightIn, Searches}
use Rattle.state_search.specs.declared.search.Search.{Search}
use Rattle.store_audit.specs.Reports.{first_in}
use Rattle.store_audit.proofs.judging.judge_all.Goals as goal

pub returns-in_ok-report-in-Some-Found : goal.returns-in_ok-report-in-Some-Found
returns-in_ok-report-in-Some-Found c =
    let found = Searches (AreRightIn c.args.query.now c.args.reply.parts.items) c.args.since
    (first_in c.args.beginning) (events_of c.args.changes.now) in
    c.in_ok-report-in-Some-Found.ensures c.args.since (
      refl,
      subst found c.in-Some-Found.field-0-is
          (subst (λ (o : Option Search). IfSome o found) c.in-Some-Found.is
          c.in_ok-search_newest.ensures.some),
    )
