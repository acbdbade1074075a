use Rattle.std.proofs.Common.{◌≤◌}
use Rattle.join_schedule.specs.declared.blocks.Run.{Run}
use Rattle.join_schedule.specs.Windows.{FillsWindow}
use Rattle.join_schedule.proofs.windows.first_of_span.Given as goal

abbrev pub invariant-loop-at : goal.invariant-loop-at
invariant-loop-at l =
    (run : Run) → FillsWindow l.limits l.floor l.blocks l.span run → l.at ≤ run.at
