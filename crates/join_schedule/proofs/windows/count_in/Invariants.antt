use Rattle.std.proofs.Common.{take}
use Rattle.std.specs.Prelude.{All}
use Rattle.join_schedule.specs.Windows.{LiesIn}
use Rattle.join_schedule.proofs.windows.count_in.Given as goal

abbrev pub invariant-loop-at : goal.invariant-loop-at
invariant-loop-at l = All (LiesIn l.span l.end) (take l.at l.blocks)
