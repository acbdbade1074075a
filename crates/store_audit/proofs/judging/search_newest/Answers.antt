use Rattle.std.proofs.Common.{Option, arith, subst}
use Rattle.std.specs.Prelude.{IfSome}
use Rattle.kept_world.specs.Changes.{events_of}
use Rattle.reply_state.specs.Searches.{AreRightIn, Searches}
use Rattle.state_search.specs.declared.search.Search.{Search}
use Rattle.store_audit.specs.Reports.{first_in}
use Rattle.store_audit.proofs.judging.search_newest.Goals as goal

pub returns-in-Some-Found-clause-some : goal.returns-in-Some-Found-clause-some
returns-in-Some-Found-clause-some c =
    let found = Searches (AreRightIn c.args.query.now c.args.reply.now.parts.items)
    c.last_run_of-late.result (first_in c.args.beginning.now) (events_of c.args.changes.now) in
    let h = subst found c.in-Some-Found.field-0-is
    (subst (λ (o : Option Search). IfSome o found) c.in-Some-Found.is
    c.in_ok-at.ensures.some) in (
      let late = h.0 in omega (arith, late),
      h.1,
      h.2,
    )
