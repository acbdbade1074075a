use Rattle.std.proofs.Common.{◌-◌}
use Rattle.join_schedule.proofs.Spans.{IsReached}
use Rattle.join_schedule.proofs.windows.first_window.Given as goal

abbrev pub invariant-loop-span : goal.invariant-loop-span
invariant-loop-span l = IsReached l.limits l.floor l.blocks l.span

abbrev pub decreases-loop-span : goal.decreases-loop-span
decreases-loop-span l = 18446744073709551616 - l.span
