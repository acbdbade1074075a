use Rattle.std.proofs.Common.{refl}
use Rattle.explain.specs.Showing.{by_state}
use Rattle.explain.proofs.judging.judge_found.Goals as goal

pub returns-in_ok-state_of-in-Told-clause-ok : goal.returns-in_ok-state_of-in-Told-clause-ok
returns-in_ok-state_of-in-Told-clause-ok c =
    by_state c.in-Told.report c.in_ok-state_of-in-Told.field-0
    (record {
      parts = c.in_ok-parts.parts.items;
      walked = c.in_ok-parts.ensures;
      is = rw c.in-Told.is at c.in_ok-report.ensures;
    }) c.in_ok-state_of-in-Told.ensures c.new-in-Told.ensures.items c.new-in-Told-2.ensures.items refl
