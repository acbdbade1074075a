use Rattle.asked_series.proofs.Naming.{why_no_selector}
use Rattle.asked_series.proofs.series.matchers_in.Goals as goal

pub returns-in-Err-clause-err : goal.returns-in-Err-clause-err
returns-in-Err-clause-err c = rw c.selector_fault.ensures (why_no_selector _ _ c.in-Err.ensures.err)
