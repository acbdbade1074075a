use Rattle.std.proofs.Common.{◌≡◌, ◌++◌, drop}
use Rattle.std.specs.List.{flat_map}
use Rattle.page_text.specs.Printing.{move_text}
use Rattle.page_text.proofs.printing.append_moves.Given as goal

abbrev pub invariant-loop-step : goal.invariant-loop-step
invariant-loop-step l =
    l.out.items ++ flat_map move_text (drop l.step-index l.steps)
    ≡ l.fn.out.items ++ flat_map move_text l.steps
